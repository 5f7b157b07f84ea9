-- The length fits, and so does a position up to it.
use native.Mathlib.Omega.{arith}
use Rattle.node.proofs.Laws.{length_fits}
use Rattle.node.proofs.next_soon.Goals as goal

pub overflow_add-common : goal.overflow_add-common
overflow_add-common c = record { fits = length_fits c.requires.common }

pub overflow_add-progress : goal.overflow_add-progress
overflow_add-progress c = record { fits = omega (arith, c.if-common-progress.false, length_fits c.requires.common) }
