-- The next position fits.
use Rattle.node.proofs.Laws.{progress_fits}
use Rattle.node.proofs.finish_node.Goals as goal

pub overflow_add-result : goal.overflow_add-result
overflow_add-result c = record { fits = progress_fits c.requires.given }
