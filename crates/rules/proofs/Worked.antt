-- A run of the worked canal that meets the premise of demand 3: A and B, numbers 0 and 1, are healthy together, while B has closed fewer records than A
-- and also when B is left behind. Whoever sends the third entry lies.
use mathlib.Core.Path.{◌≡◌, refl, sym, subst}
use mathlib.Core.Bool.{true}
use mathlib.Core.Logic.{◌⊎◌, inl, inr}
use mathlib.Core.Option.{none}
use mathlib.Core.List.Memᴰ
use mathlib.Core.List.{List, [], ◌∷◌, ◌++◌, Memᴰ}
use Prim.Native.Nat.{ℕ, zero, suc}
use lib.ListN.{take}
use Rattle.laws.specs.Lists.{Prefix}
use Rattle.laws.proofs.Lists.{prefix_refl}
use Rattle.rules.specs.Answer.{done, refused, refused_by}
use Rattle.rules.specs.Table.{check}
use Rattle.rules.specs.Judge.{Report, Round}
use Rattle.rules.specs.Node.{left_behind, start}
use Rattle.rules.specs.Cabinet.{Call, start_at, finish_at, report_at, close_with, Watched, asked, Step, Cabinet, stepped, run}
use Rattle.rules.specs.Agreement.{apply_whole, whole_after, order_after, Holds, Healthy, Agrees}
use Rattle.rules.specs.Canal.{canal, sends, released, nodes, round_at, round_0}
use Rattle.rules.specs.All.{all}
use Rattle.rules.proofs.Agreement.{agreement}

-- the third claims to be far ahead
abbrev pub round_12 : Round
round_12 = round_at 12 (released 0 0 ∷ []) (nodes (sends 1 9 1) (sends 0 0 1) (sends 9 12 1))

-- and to have done all by time 2
abbrev pub round_120 : Round
round_120 = round_at 120 (released 0 0 ∷ []) (nodes (sends 3 50 0) (sends 1 30 1) (sends 3 2 0))

abbrev pub A : Call → Step
A k = record { who = 0; what = k }

abbrev pub B : Call → Step
B k = record { who = 1; what = k }

-- up to where A has closed the record of 12, and B has not
abbrev pub until_lag : List Step
until_lag =
    A (report_at 0) ∷ B (report_at 0) ∷ A (close_with round_0) ∷ B (close_with round_0) ∷ A (start_at 2) ∷ B (start_at 3) ∷ A (finish_at 9)
    ∷ A (start_at 11) ∷ A (start_at 12) ∷ A (report_at 12) ∷ B (report_at 12) ∷ A (close_with round_12) ∷ []

-- and on to where B has closed the record of 120, which tells it that it is left behind
abbrev pub until_left : List Step
until_left =
    B (finish_at 30) ∷ B (start_at 31) ∷ B (close_with round_12) ∷ B (start_at 32) ∷ A (finish_at 30) ∷ A (start_at 40) ∷ A (finish_at 50)
    ∷ A (report_at 120) ∷ B (report_at 120) ∷ A (close_with round_120) ∷ B (close_with round_120) ∷ []

abbrev pub after : List Step → Cabinet
after = run canal (λ a. a)

-- what is seen of a node: the records it closed, the tasks it started, and the order that those records give
pub record Seen (x : Watched) (closed : List Round) (started order : List ℕ) : Type 0 where
  pub closes : x.closed ≡ closed
  pub starts : x.started ≡ started
  pub orders : order_after canal x.closed ≡ order

pub record Lag (σ : Cabinet) : Type 0 where
  pub of_A : Seen (σ 0) (round_0 ∷ round_12 ∷ []) (1 ∷ 2 ∷ []) (1 ∷ 2 ∷ 0 ∷ [])
  pub of_B : Seen (σ 1) (round_0 ∷ []) (1 ∷ []) (1 ∷ 2 ∷ [])

pub record Left (σ : Cabinet) : Type 0 where
  pub of_A : Seen (σ 0) (round_0 ∷ round_12 ∷ round_120 ∷ []) (1 ∷ 2 ∷ 0 ∷ []) (1 ∷ 2 ∷ 0 ∷ 0 ∷ [])
  pub of_B : Seen (σ 1) (round_0 ∷ round_12 ∷ round_120 ∷ []) (1 ∷ 2 ∷ []) (1 ∷ 2 ∷ 0 ∷ 0 ∷ [])
  pub told : left_behind (σ 1).node ≡ true

pub lag : Lag (after until_lag)
unfolding all asked stepped run apply_whole whole_after order_after
lag = record { of_A = record { closes = refl; starts = refl; orders = refl }; of_B = record { closes = refl; starts = refl; orders = refl } }

pub left : Left (after (until_lag ++ until_left))
unfolding all asked stepped run apply_whole whole_after order_after
left = record { of_A = record { closes = refl; starts = refl; orders = refl }; of_B = record { closes = refl; starts = refl; orders = refl }; told = refl }

-- A's start at 11 is refused 9 for task 0; B's at 31, with its round open, 8
pub refusals : (start canal (after (take 7 until_lag) 0).node 11 ≡ refused_by 9 0) × (start canal (after (until_lag ++ take 1 until_left) 1).node 31 ≡ refused 8)
unfolding all asked stepped run
refusals = (refl, refl)

-- A and B
abbrev pub AAndB : ℕ → Type 0
AAndB zero = Unit {0}
AAndB (suc zero) = Unit {0}
AAndB (suc (suc a)) = ⊥

-- each of some records holds the report of x, or x is left behind
abbrev Held : Watched → Round → Type 0
Held x q = (left_behind x.node ≡ true) ⊎ Holds q x

abbrev AllHeld : Watched → List Round → Type 0
AllHeld x [] = Unit {0}
AllHeld x (q ∷ qs) = Held x q × AllHeld x qs

each_held : (x : Watched) (qs : List Round) → AllHeld x qs → (q : Round) → Memᴰ q qs → Held x q
each_held x [] h q m = absurd (Memᴰ.not-nil m)
each_held x (p ∷ qs) h q m = by (Memᴰ.cases_cons m) (each_held x qs h.1 q)
  where
    by : (q ≡ p) ⊎ Memᴰ q qs → (Memᴰ q qs → Held x q) → Held x q
    by (inl e) ih = subst (Held x) (sym e) h.0
    by (inr n) ih = ih n

-- where B has closed a first part of what A has
module _ (σ : Cabinet) {qs ps : List Round} (of_A : (σ 0).closed ≡ qs) (of_B : (σ 1).closed ≡ ps) (p : Prefix ps qs) (held_A : AllHeld (σ 0) qs) (held_B : AllHeld (σ 1) qs) where
  first_part : Prefix (σ 1).closed (σ 0).closed
  first_part = rw (of_A, of_B) p

  same : (a b : ℕ) → AAndB a → AAndB b → Prefix (σ a).closed (σ b).closed ⊎ Prefix (σ b).closed (σ a).closed
  same zero zero h k = inl (prefix_refl _)
  same zero (suc zero) h k = inr first_part
  same (suc zero) zero h k = inl first_part
  same (suc zero) (suc zero) h k = inl (prefix_refl _)
  same zero (suc (suc b)) h k = absurd k
  same (suc zero) (suc (suc b)) h k = absurd k
  same (suc (suc a)) b h k = absurd h

  of_A's : (a : ℕ) → AAndB a → (q : Round) → Memᴰ q (σ a).closed → Memᴰ q qs
  of_A's zero h q m = subst (Memᴰ q) of_A m
  of_A's (suc zero) h q m = subst (Memᴰ q) p.whole (Memᴰ.append_left p.rest (subst (Memᴰ q) of_B m))
  of_A's (suc (suc a)) h q m = absurd h

  all_held : (b : ℕ) → AAndB b → AllHeld (σ b) qs
  all_held zero h = held_A
  all_held (suc zero) h = held_B
  all_held (suc (suc b)) h = absurd h

  both_healthy : Healthy AAndB σ
  both_healthy = record { same = same; held = λ a b h k q m. each_held (σ b) qs (all_held b k) q (of_A's a h q m) }

abbrev says : ℕ → ℕ → ℕ → Report
says p t u = record { progress = p; completed = t; run = u }

pub lag_healthy : Healthy AAndB (after until_lag)
unfolding all asked stepped run
lag_healthy =
    both_healthy (after until_lag) lag.of_A.closes lag.of_B.closes (record { rest = round_12 ∷ []; whole = refl }) (
      inr (record { report = says 0 0 0; was_sent = Memᴰ.head refl; entry = refl }),
      (inr (record { report = says 1 9 1; was_sent = Memᴰ.tail (Memᴰ.head refl); entry = refl }), tt),
    ) (
      inr (record { report = says 0 0 0; was_sent = Memᴰ.head refl; entry = refl }),
      (inr (record { report = says 0 0 1; was_sent = Memᴰ.tail (Memᴰ.head refl); entry = refl }), tt),
    )

pub left_healthy : Healthy AAndB (after (until_lag ++ until_left))
unfolding all asked stepped run
left_healthy =
    both_healthy (after (until_lag ++ until_left)) left.of_A.closes left.of_B.closes (prefix_refl _) (
      inr (record { report = says 0 0 0; was_sent = Memᴰ.head refl; entry = refl }),
      (
        inr (record { report = says 1 9 1; was_sent = Memᴰ.tail (Memᴰ.head refl); entry = refl }),
        (inr (record { report = says 3 50 0; was_sent = Memᴰ.tail (Memᴰ.tail (Memᴰ.head refl)); entry = refl }), tt),
      ),
    )
    (inl left.told, (inl left.told, (inl left.told, tt)))

checked : check canal ≡ done canal
unfolding all
checked = refl

-- what demand 3 then says of it
pub agreed : Agrees canal (after until_lag 1) (after (until_lag ++ until_left) 1) (after (until_lag ++ until_left) 0)
agreed = agreement canal checked (λ a. a) until_lag until_left AAndB left_healthy 0 1 tt tt

-- The premise is needed: a record of 12 that A closes without B's report puts task 0 ahead of what B has started.
abbrev pub without_B : Round
without_B = round_at 12 (released 0 0 ∷ []) (nodes (sends 0 0 1) none none)

abbrev pub until_apart : List Step
until_apart =
    A (report_at 0) ∷ B (report_at 0) ∷ A (close_with round_0) ∷ B (close_with round_0) ∷ B (start_at 2) ∷ B (finish_at 9) ∷ B (start_at 12)
    ∷ A (report_at 12) ∷ A (close_with without_B) ∷ []

pub record Apart (σ : Cabinet) : Type 0 where
  pub of_A : Seen (σ 0) (round_0 ∷ without_B ∷ []) [] (1 ∷ 0 ∷ 2 ∷ [])
  pub of_B : Seen (σ 1) (round_0 ∷ []) (1 ∷ 2 ∷ []) (1 ∷ 2 ∷ [])

pub apart : Apart (after until_apart)
unfolding all asked stepped run apply_whole whole_after order_after
apart = record { of_A = record { closes = refl; starts = refl; orders = refl }; of_B = record { closes = refl; starts = refl; orders = refl } }
