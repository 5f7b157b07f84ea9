-- `passes::nodes_where` meets its contract. The invariant: the set has the nodes below `i`. Assumes nothing.
use Rattle.std.proofs.Common.{◌≡◌, ◌^◌, ◌<◌, take, Bool}
use Rattle.laws.proofs.Folds.{bits}
use Rattle.passes.specs.declared.Classed.{Classed}
use Rattle.passes.proofs.nodes_where.Given as goal

abbrev pub invariant-loop-i : goal.invariant-loop-i
invariant-loop-i g l = (l.set < 2 ^ l.i) × ((test : Classed → Bool) → ((x : _) (r : _) → goal.F-post g l.member x r → r ≡ test x.now) → l.set ≡ bits test (take l.i l.entries))
