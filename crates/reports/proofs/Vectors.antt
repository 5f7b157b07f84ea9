-- The reports of the worked canal's rounds, lent: they stand for the entries of its records.
use mathlib.Core.Path.{◌≡◌, refl}
use mathlib.Core.Bool.{true, false}
use mathlib.Core.List.{[], ◌∷◌}
use Prim.Native.Nat.{ℕ}
use lib.ListN.{length, replicate}
use Rattle.rules.specs.Canal.{round_10, round_120}
use Rattle.reports.specs.declared.Told.{Told}
use Rattle.reports.specs.Reports.{round_of_told}

told : ℕ → ℕ → ℕ → Told
told p c r = record { present = true; progress = p; completed = c; run = r }

-- its numbers mean nothing
absent : Told
absent = record { present = false; progress = 3; completed = 62; run = 1 }

tenth : (round_of_told 10 (told 1 8 0 ∷ told 0 0 1 ∷ told 2 10 0 ∷ [])).entries ≡ round_10.entries
unfolding told
tenth = refl

with_a_missing_one : (round_of_told 120 (told 3 45 0 ∷ told 3 60 0 ∷ absent ∷ [])).entries ≡ (round_120 60).entries
unfolding told absent
with_a_missing_one = refl

-- of sixteen reports the last is not judged
sixteen : length (round_of_told 0 (replicate 16 absent)).entries ≡ 15
sixteen = refl
