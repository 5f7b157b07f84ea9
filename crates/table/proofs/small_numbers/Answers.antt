-- Four conditions, joined from the left.
use mathlib.Core.List.{[], ◌∷◌}
use Rattle.laws.proofs.Sequences.{all_left}
use Rattle.table.specs.Check.{small_numbers}
use Rattle.table.proofs.small_numbers.Goals as goal

pub returns : goal.returns
unfolding small_numbers
returns c = all_left _ (_ ∷ _ ∷ _ ∷ [])
