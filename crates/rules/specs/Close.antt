-- A round record applied to a common record. "A station that only watches applies records to a common record without a node."
use Rattle.std.specs.Prelude.{Bool, false, not, ◌||◌, List, [], ◌∷◌, map, ℕ, ◌+◌, ◌-◌, ◌^◌, length, drop, get_or}
use Rattle.std.proofs.Math.Option.{some}
use Rattle.laws.specs.Tests.{◌<?◌, ◌≤?◌, ◌=?◌, any_of, maybe}
use Rattle.laws.specs.Lists.{pad}
use Rattle.rules.specs.Answer.{Answer, done, refuse◌if◌else◌}
use Rattle.rules.specs.Table.{Table}
use Rattle.rules.specs.Common.{Common, L}
use Rattle.rules.specs.Judge.{Release, Round, class, new_O, new_B, new_W, back_runner, majority}
use Rattle.rules.specs.Insert.{next_E, release_all}

-- 3: "time (now, or a record's r, not r + delay) above 2^48 − 1"
abbrev pub too_late : ℕ → Bool
too_late t = 2 ^ 48 ≤? t

-- 14: "r < last round + timeout (not for the first)"
abbrev pub too_soon : Table → Common → ℕ → Bool
too_soon tab c r = maybe false (λ l. r <? l + tab.timeout) c.last

-- 15: "unknown task, delay ≥ timeout, or delays that fall"
unfoldable pub ill_listed : Table → ℕ → List Release → Bool
ill_listed tab least [] = false
ill_listed tab least (x ∷ xs) =
    any_of ((length tab.tasks ≤? x.task_of) ∷ (tab.timeout ≤? x.delay) ∷ (x.delay <? least) ∷ ill_listed tab x.delay xs ∷ [])

-- 15: "first delay not 0"
abbrev pub first_delay : List Release → ℕ
first_delay [] = 0
first_delay (x ∷ xs) = x.delay

-- 15: "over 64 releases, entry count not m, unknown task, first delay not 0, delay ≥ timeout, or delays that fall"
unfoldable pub ill_formed : Table → Round → Bool
ill_formed tab q =
    any_of (
    (64 <? length q.releases) ∷ not (length q.entries =? tab.m)
    ∷ not (first_delay q.releases =? 0) ∷ ill_listed tab 0 q.releases ∷ [])

-- 16: "release time < E(task), earlier releases of the list already counted"
unfoldable pub too_early : Table → ℕ → List ℕ → List Release → Bool
too_early tab r E [] = false
too_early tab r E (x ∷ xs) = (r + x.delay <? get_or E x.task_of 0) || too_early tab r (next_E tab r E x) xs

-- 17: "L + releases − new B > 256"
abbrev pub too_many : Table → Common → Round → Bool
too_many tab c q = new_B tab c q.r q.entries + 256 <? L c + length q.releases

-- The new B, W and O, and the last round's time; "Jobs at positions up to B are dropped".
unfoldable pub judged : Table → Common → Round → Common
judged tab c q = record {
  kept = drop (new_B tab c q.r q.entries - c.B) c.kept;
  B = new_B tab c q.r q.entries;
  W = new_W tab c q.r q.entries;
  O = new_O tab c q.r q.entries;
  E = c.E;
  last = some q.r;
}

unfoldable pub applied : Table → Common → Round → Common
applied tab c q = release_all tab q.r (judged tab c q) q.releases

-- "The reply carries one class number for each of fifteen places (places beyond m hold 0), the back-runner (15 if none), and whether the
-- number of nodes in class 0 or 5 is at least half of m, rounded down, plus 1."
pub record Verdict : Type 0 where
  pub classes : List ℕ
  pub back : ℕ
  pub notice : Bool

unfoldable pub verdict : Table → Common → Round → Verdict
verdict tab c q = record {
  classes = pad 15 0 (map (class tab c q.r) q.entries);
  back = maybe 15 (λ i. i) (back_runner tab c q.r q.entries);
  notice = majority tab c q.r q.entries;
}

pub record Closed : Type 0 where
  pub common : Common
  pub reply : Verdict

-- "then 3, 14, 15, 16, 17; a station begins at 3. 15 is tried over the whole list first, then 16."
unfoldable pub close : Table → Common → Round → Answer Closed
close tab c q =
    refuse 3 if too_late q.r
    else refuse 14 if too_soon tab c q.r
    else refuse 15 if ill_formed tab q
    else refuse 16 if too_early tab q.r c.E q.releases
    else refuse 17 if too_many tab c q
    else done (record { common = applied tab c q; reply = verdict tab c q })
