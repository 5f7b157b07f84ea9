-- The worked canal's table as words, and words that are refused, of whatever the contract admits: by computation.
use mathlib.Core.Path.{◌≡◌, refl, ◌∙◌}
use mathlib.Core.List.{List, [], ◌∷◌, ◌++◌}
use Prim.Native.Nat.{ℕ}
use Rattle.laws.specs.Lists.{pad, rows}
use Rattle.rules.specs.All.{all}
use Rattle.table.specs.declared.Table.{Table}
use Rattle.std.specs.Prelude.{Result, Ok, Err}
use Rattle.refusal.specs.declared.Refusal.{Refusal}
use Rattle.refusal.specs.declared.Refusal.TheVariants.{WrongLength, WrongTable}
use Rattle.refusal.specs.Refusal.{answer_of}
use Rattle.refusal.proofs.Same.{answer_same}
use Rattle.words.specs.Table.{table_words, table_at}

-- "tasks (C, T, D, S): 0 (10, 100, 100, 40), 1 (20, 200, 200, 50), 2 (30, 400, 400, 40)"; a place past them holds 7, of which nothing is asked
abbrev C : List ℕ
C = pad 64 0 (10 ∷ 20 ∷ 30 ∷ 7 ∷ [])

abbrev T : List ℕ
T = pad 64 0 (100 ∷ 200 ∷ 400 ∷ [])

abbrev D : List ℕ
D = pad 64 0 (100 ∷ 200 ∷ 400 ∷ [])

abbrev S : List ℕ
S = pad 64 0 (40 ∷ 50 ∷ 40 ∷ [])

-- with a head
abbrev words : ℕ → ℕ → ℕ → List ℕ
words nodes timeout count = nodes ∷ timeout ∷ count ∷ (C ++ (T ++ (D ++ S)))

abbrev canal : Table
canal = record { nodes = 3; timeout = 2; count = 3; longest = C; distance = T; deadline = D; slack = S }

-- "m 3, timeout 2": accepted, with every word in its place
pub canal_read : {r : Result Table Refusal} → answer_of r ≡ table_at (words 3 2 3) → r ≡ Ok canal
unfolding all rows table_at
canal_read e = answer_same (e ∙ refl)

pub canal_written : {left : List ℕ} → left ≡ table_words canal → left ≡ words 3 2 3
canal_written e = e ∙ refl

-- a word more, and none at all
pub one_more : {r : Result Table Refusal} → answer_of r ≡ table_at (words 3 2 3 ++ (0 ∷ [])) → r ≡ Err WrongLength
unfolding all rows table_at
one_more e = answer_same (e ∙ refl)

pub no_words : {r : Result Table Refusal} → answer_of r ≡ table_at [] → r ≡ Err WrongLength
unfolding all rows table_at
no_words e = answer_same (e ∙ refl)

-- what `check` refuses 1 (65 tasks) and 2 (a timeout above the smallest C; a fourth task of 7, 0, 0, 0) is 101 here
pub count_65 : {r : Result Table Refusal} → answer_of r ≡ table_at (words 3 2 65) → r ≡ Err WrongTable
unfolding all rows table_at
count_65 e = answer_same (e ∙ refl)

pub long_timeout : {r : Result Table Refusal} → answer_of r ≡ table_at (words 3 11 3) → r ≡ Err WrongTable
unfolding all rows table_at
long_timeout e = answer_same (e ∙ refl)

pub fourth_task : {r : Result Table Refusal} → answer_of r ≡ table_at (words 3 2 4) → r ≡ Err WrongTable
unfolding all rows table_at
fourth_task e = answer_same (e ∙ refl)
