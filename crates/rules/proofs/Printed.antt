-- The worked canal's session, from the bytes that it reads to the bytes that it prints: by computation.
use mathlib.Core.Path.{refl}
use Rattle.rules.specs.All.{all}
use Rattle.rules.specs.Canal.{PrintedCanal}

pub canal_prints : PrintedCanal
unfolding all
canal_prints = record { lines = refl }
