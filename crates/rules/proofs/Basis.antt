-- What demand 3 rests on: the few properties of the common record that its argument uses. The invariant of a node is argued from these alone, so a
-- change of the rules costs demand 3 what it costs here.
use mathlib.Core.Path.{◌≡◌}
use mathlib.Core.Bool.{true}
use mathlib.Core.Option.{none, some}
use mathlib.Core.List.{List, [], ◌∷◌, ◌++◌}
use Prim.Native.Nat.{ℕ, ◌+◌, ◌≤◌, ◌<◌}
use lib.ListN.{length, get_or}
use Rattle.rules.specs.Answer.{done}
use Rattle.rules.specs.Table.{Table}
use Rattle.rules.specs.Common.{Common, L, job_at, within_bound}
use Rattle.rules.specs.Judge.{Report, Round}
use Rattle.rules.specs.Close.{Closed, close, applied}
use Rattle.rules.specs.Agreement.{common_after, order_after, Good}
use Rattle.rules.proofs.Ordered.{Ordered}

-- the bound holds at t for each position past O, up to k
abbrev pub Bounded : Table → Common → ℕ → ℕ → Type 0
Bounded tab c t k = (p : ℕ) → c.O < p → p ≤ k → within_bound tab c p t ≡ true

abbrev pub offset_after : Table → List Round → ℕ
offset_after tab qs = (common_after tab qs).O

-- of the order that records give, and of the bound
pub record OrderBasis (tab : Table) : Type 0 where
  pub ordered : Ordered (order_after tab) (offset_after tab)
  pub one_more : (qs : List Round) (q : Round) → common_after tab (qs ++ (q ∷ [])) ≡ applied tab (common_after tab qs) q
  pub long : (qs : List Round) → length (order_after tab qs) ≡ L (common_after tab qs)
  -- the job that stands past B in the common record is the one of the order from position 1 on
  pub names : (qs : List Round) (p : ℕ) → (common_after tab qs).B ≤ p → (job_at (common_after tab qs) (p + 1)).task_of ≡ get_or (order_after tab qs) p 0
  -- the bound, once met, stays met
  pub later : (c : Common) (p t u : ℕ) → t ≤ u → within_bound tab c p t ≡ true → within_bound tab c p u ≡ true
  pub gives : (c : Common) (q : Round) {k : Closed} → close tab c q ≡ done k → k.common ≡ applied tab c q

-- and of the reports
pub record Basis (tab : Table) : Type 0 where
  pub order : OrderBasis tab
  pub timeout : 1 ≤ tab.timeout
  -- an entry of class 0 or 5 moves O up to its progress + run
  pub counts : (qs : List Round) (q : Round) (i : ℕ) (e : Report) → get_or q.entries i none ≡ some e → Good tab (common_after tab qs) q.r e
      → e.progress + e.run ≤ offset_after tab (qs ++ (q ∷ []))
  -- what is neither malformed nor behind nor over the bound is of class 0 or 5
  pub judged : (c : Common) (r : ℕ) (e : Report) → e.run ≤ 1 → e.progress + e.run ≤ L c → e.completed ≤ r → c.B ≤ e.progress
      → Bounded tab c r (e.progress + e.run) → Good tab c r e
