-- Five conditions, joined from the left.
use mathlib.Core.List.{[], ◌∷◌}
use Rattle.laws.proofs.Sequences.{any_left}
use Rattle.rules.specs.Table.{out_of_range}
use Rattle.table.proofs.out_of_range.Goals as goal

pub returns : goal.returns
unfolding out_of_range
returns c = any_left _ (_ ∷ _ ∷ _ ∷ _ ∷ [])
