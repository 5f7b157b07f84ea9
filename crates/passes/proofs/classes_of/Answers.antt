-- `passes::classes_of` meets its contract. The invariant: the classes below `i` are written. Assumes nothing.
use mathlib.Core.Path.{refl}
use Rattle.passes.specs.Classed.{class_in, no_class}
use Rattle.passes.proofs.Chains.{fill_taken}
use Rattle.passes.proofs.classes_of.Goals as goal

pub loop-i-preserved : goal.loop-i-preserved
loop-i-preserved c = fill_taken class_in 15 0 c.loop-i.invariant no_class c.loop-i-test.true refl
