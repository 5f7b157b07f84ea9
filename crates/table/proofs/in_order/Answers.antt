-- Six conditions, joined from the left; the sum is of two small numbers.
use mathlib.Core.List.{[], ◌∷◌}
use Rattle.laws.proofs.Sequences.{all_left}
use Rattle.table.specs.Check.{in_order}
use Rattle.table.proofs.in_order.Goals as goal

pub returns : goal.returns
unfolding in_order
returns c = all_left _ (_ ∷ _ ∷ _ ∷ _ ∷ _ ∷ [])
