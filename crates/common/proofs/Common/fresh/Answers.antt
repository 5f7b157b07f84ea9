-- The fresh record is the one that stands for the rules' fresh record.
use mathlib.Core.Path.{refl}
use Rattle.laws.specs.Lists.{pad}
use Rattle.common.proofs.Common.fresh.Goals as goal

pub returns : goal.returns
unfolding pad
returns c = refl
