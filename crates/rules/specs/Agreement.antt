-- Demand 3, agreement: its statement. The sentences in quotation marks are the demand's where nothing else is said.
use Rattle.std.specs.Prelude.{◌≡◌, true, ◌⊎◌, ℕ, ◌-◌, ◌≤◌, length, take, get_or}
use Rattle.std.proofs.Math.Option.{Option, none, some}
use mathlib.Core.List.{List, [], ◌∷◌, ◌++◌, map, foldl, Memᴰ}
use Rattle.laws.specs.Lists.{Prefix}
use Rattle.rules.specs.Answer.{done}
use Rattle.rules.specs.Table.{Table, check}
use Rattle.rules.specs.Common.{Job, Common, fresh}
use Rattle.rules.specs.Judge.{Report, Round, class}
use Rattle.rules.specs.Close.{applied}
use Rattle.rules.specs.Node.{left_behind}
use Rattle.rules.specs.Cabinet.{Watched, Step, Cabinet, run}

-- A common record, and the jobs that it has dropped: those at positions 1 to B.
pub record Whole : Type 0 where
  pub now : Common
  pub gone : List Job

unfoldable pub apply_whole : Table → Whole → Round → Whole
apply_whole tab w q = record {
  now = applied tab w.now q;
  gone = w.gone ++ take ((applied tab w.now q).B - w.now.B) w.now.kept;
}

-- What a list of records gives on its own, oldest first, from the fresh common record on.
unfoldable pub whole_after : Table → List Round → Whole
whole_after tab qs = foldl (apply_whole tab) (record { now = fresh; gone = [] }) qs

abbrev pub common_after : Table → List Round → Common
common_after tab qs = (whole_after tab qs).now

-- "the order that its own closed records give on their own", "counted from the first job of all": the tasks at positions 1 to L.
unfoldable pub order_after : Table → List Round → List ℕ
order_after tab qs = map (λ j. j.task_of) ((whole_after tab qs).gone ++ (common_after tab qs).kept)

-- Not "rejected as malformed, behind or over the bound", nor missing: of class 0 or 5.
abbrev pub Good : Table → Common → ℕ → Report → Type 0
Good tab c r e = (class tab c r (some e) ≡ 0) ⊎ (class tab c r (some e) ≡ 5)

-- The entry of a record at a node's number.
abbrev pub entry_of : Watched → Round → Option Report
entry_of x q = get_or q.entries x.node.number none

abbrev pub Sent : Watched → ℕ → Report → Type 0
Sent x r e = Memᴰ (record { r = r; sent = e }) x.sent

-- The record "holds the report it sent for it": for its r, and not only one that looks the same. "One that has sent none does not count."
pub record Holds (q : Round) (x : Watched) : Type 0 where
  pub report : Report
  pub was_sent : Sent x q.r report
  pub entry : entry_of x q ≡ some report

-- The nodes of a set are healthy together at a moment: each "closes the same round records in the same order" (so far: one may have closed more), "and
-- each record closed by any healthy one holds the report it sent for it, unless it was told it is left behind". Nothing is asked of nodes outside the set.
pub record Healthy (H : ℕ → Type 0) (σ : Cabinet) : Type 0 where
  pub same : (a b : ℕ) → H a → H b → Prefix (σ a).closed (σ b).closed ⊎ Prefix (σ b).closed (σ a).closed
  pub held : (a b : ℕ) → H a → H b → (q : Round) → Memᴰ q (σ a).closed → (left_behind (σ b).node ≡ true) ⊎ Holds q (σ b)

-- What is promised of x, of which x₀ is what it was at the same or an earlier moment, and of y.
pub record Agrees (tab : Table) (x₀ x y : Watched) : Type 0 where
  -- "no healthy report is rejected as malformed, behind or over the bound": a report of x for a record that y closed stands in it, and is good by the
  -- records before it.
  pub classes : (before : List Round) (q : Round) (behind : List Round) → y.closed ≡ before ++ (q ∷ behind) → (e : Report) → Sent x q.r e
      → (entry_of x q ≡ some e) × Good tab (common_after tab before) q.r e
  -- "What a healthy controller has started is at each moment the first part of the order that its own closed records give on their own"
  pub own : Prefix x₀.started (order_after tab x₀.closed)
  -- "and of the order given by the records of any healthy one that has closed at least as many. Later records never change that part."
  pub others : length x₀.closed ≤ length y.closed → Prefix x₀.started (order_after tab y.closed)

-- "Then, in every interleaving of steps": ks lead to a moment, ks' on to the same or a later one, where a and b are of a healthy set.
abbrev pub Demand3 : Type 1
Demand3 =
    (tab : Table) → check tab ≡ done tab → (number : ℕ → ℕ) (ks ks' : List Step) (H : ℕ → Type 0) → Healthy H (run tab number (ks ++ ks'))
    → (a b : ℕ) → H a → H b → Agrees tab (run tab number ks b) (run tab number (ks ++ ks') b) (run tab number (ks ++ ks') a)
