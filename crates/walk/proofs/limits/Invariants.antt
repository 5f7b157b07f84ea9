-- The loop of `limits`: the first i limits stand in their places, and the least so far is the next.
use mathlib.Core.Path.{◌≡◌}
use mathlib.Core.List.{List}
use Prim.Native.Nat.{ℕ, ◌≤◌}
use Rattle.laws.specs.Sums.{least_of}
use Rattle.laws.specs.Lists.{rows, pad}
use Rattle.common.specs.Raw.{Boundable}
use Rattle.walk.specs.Walk.{never, latest_end}
use Rattle.walk.proofs.limits.Given as goal

pub record Inv (earliest slack : List ℕ) (count t : ℕ) (limits : List ℕ) (low i : ℕ) : Type 0 where
  pub ready : Boundable earliest slack count t
  pub to : i ≤ count
  pub stored : limits ≡ pad 65 0 (rows (least_of never (latest_end earliest slack t)) i)
  pub is : low ≡ least_of never (latest_end earliest slack t) i

abbrev pub invariant-loop-i : goal.invariant-loop-i
invariant-loop-i l = Inv l.earliest l.slack l.count l.t l.limits l.low l.i
