-- The length and the next position fit, and the lock of an open round is small.
use Rattle.node.proofs.Laws.{common_given, length_fits, progress_fits, lockable}
use Rattle.node.proofs.may_start.Goals as goal

pub overflow_add-common : goal.overflow_add-common
overflow_add-common c = record { fits = length_fits (common_given c.requires.given) }

pub overflow_add-position : goal.overflow_add-position
overflow_add-position c = record { fits = progress_fits c.requires.given }

pub beyond_lock-requires : goal.beyond_lock-requires
beyond_lock-requires c = lockable c.requires.given
