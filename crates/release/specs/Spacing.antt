-- What the check of a list against E answers, and E after it.
use mathlib.Core.List.{List, foldl}
use Rattle.std.specs.Prelude.{ℕ}
use Rattle.laws.specs.Tests.{◌<?◌}
use Rattle.rules.specs.Answer.{Answer, done, refuse◌if◌else◌}
use Rattle.rules.specs.Table.{Table}
use Rattle.rules.specs.Judge.{Release}
use Rattle.rules.specs.Insert.{next_E}
use Rattle.rules.specs.Close.{too_early}

-- 16: "release time < E(task)"
unfoldable pub admission : ℕ → ℕ → Answer ℕ
admission earliest time = refuse 16 if time <? earliest else done time

-- The whole list: E after it.
unfoldable pub spacing : Table → ℕ → List ℕ → List Release → Answer (List ℕ)
spacing tab r E xs = refuse 16 if too_early tab r E xs else done (foldl (next_E tab r) E xs)
