-- Small cases of the words of a common record, by computing: what is taken, and what each condition refuses. The table has three tasks.
use mathlib.Core.Path.{◌≡◌, refl}
use mathlib.Core.List.{List, [], ◌∷◌, ◌++◌}
use Prim.Native.Nat.{ℕ, ◌^◌, ◌-◌}
use lib.ListN.{drop, replicate, set}
use Rattle.laws.specs.Tests.{all_of}
use Rattle.laws.specs.Sums.{total}
use Rattle.rules.specs.Answer.{Answer, done, refused, refused_by}
use Rattle.table.specs.declared.Table.{Table}
use Rattle.states.specs.Common.{common_in, all_below, small_common, in_place, known_tasks, known_common, common_at}

abbrev pub three : Table
three = record { nodes = 3; timeout = 2; count = 3; longest = []; distance = []; deadline = []; slack = [] }

-- B 3, W 122, O 3, one job kept, the last round at 120; E of task 0 is 220; the job kept is of task 2.
unfoldable pub words : List ℕ
words = 3 ∷ 122 ∷ 3 ∷ 1 ∷ 1 ∷ 120 ∷ (220 ∷ replicate 63 0) ++ (2 ∷ replicate 255 0)

-- the number of a refusal, 0 where the words are taken
abbrev pub number : {A : Type 0} → Answer A → ℕ
number (done a) = 0
number (refused n) = n
number (refused_by n i) = n

-- the refusal, with the word at a place changed
refusal_at : ℕ → ℕ → ℕ
refusal_at place word = number (common_at three (set words place word))

unfoldable pub opened : Unit {0}
unfolding common_at known_common common_in small_common in_place known_tasks all_below all_of total words refusal_at
opened = tt

taken : refusal_at 0 3 ≡ 0
unfolding opened
taken = refl

base_past_offset : refusal_at 0 4 ≡ 102
unfolding opened
base_past_offset = refl

base_wraps : refusal_at 0 (2 ^ 64 - 1) ≡ 102
unfolding opened
base_wraps = refl

start_too_late : (refusal_at 1 (2 ^ 49 - 1) ≡ 0) × (refusal_at 1 (2 ^ 49) ≡ 102)
unfolding opened
start_too_late = (refl, refl)

offset_past_last : (refusal_at 2 4 ≡ 0) × (refusal_at 2 5 ≡ 102)
unfolding opened
offset_past_last = (refl, refl)

-- a job more would be of task 0; with none the place of the job holds no 0
counted_otherwise : (refusal_at 3 2 ≡ 0) × (refusal_at 3 0 ≡ 102) × (refusal_at 3 257 ≡ 102)
unfolding opened
counted_otherwise = (refl, refl, refl)

-- "no round has been" with a time, and a mark above 1
no_mark : (refusal_at 4 0 ≡ 102) × (refusal_at 4 2 ≡ 102)
unfolding opened
no_mark = (refl, refl)

last_too_late : (refusal_at 5 (2 ^ 48 - 1) ≡ 0) × (refusal_at 5 (2 ^ 48) ≡ 102)
unfolding opened
last_too_late = (refl, refl)

-- L is 4: with less in E so many jobs were never released
too_few_released : (refusal_at 6 4 ≡ 0) × (refusal_at 6 3 ≡ 102) × (refusal_at 69 (2 ^ 49) ≡ 102)
unfolding opened
too_few_released = (refl, refl, refl)

other_tasks : (refusal_at 70 0 ≡ 0) × (refusal_at 70 3 ≡ 102) × (refusal_at 71 1 ≡ 102) × (refusal_at 325 1 ≡ 102)
unfolding opened
other_tasks = (refl, refl, refl, refl)

wrong_length : (number (common_at three (drop 1 words)) ≡ 100) × (number (common_at three (0 ∷ words)) ≡ 100)
unfolding opened
wrong_length = (refl, refl)
