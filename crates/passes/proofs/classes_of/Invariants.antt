-- `passes::classes_of` meets its contract. The invariant: the classes below `i` are written. Assumes nothing.
use Rattle.laws.proofs.Folds.{Filled}
use Rattle.passes.specs.Classed.{class_in}
use Rattle.passes.proofs.classes_of.Given as goal

abbrev pub invariant-loop-i : goal.invariant-loop-i
invariant-loop-i l = Filled class_in 15 0 l.fn.all l.n l.i l.classes
