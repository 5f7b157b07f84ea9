-- What the check of a table answers, and the rules of one task read off its numbers.
use Rattle.std.specs.Prelude.{Result, Ok, Err, Bool, not, ◌&&◌, ℕ, ◌+◌, max, drop, get_or}
use mathlib.Core.List.{List, [], ◌∷◌, foldr}
use Rattle.laws.specs.Tests.{◌≤?◌, all_of}
use Rattle.laws.specs.Search.{first_from}
use Rattle.laws.specs.Lists.{rows}
use Rattle.rules.specs.Answer.{Answer, done, refused, refused_by}
use Rattle.rules.specs.Table as rules
use Rattle.refusal.specs.declared.Refusal.{Refusal}
use Rattle.refusal.specs.declared.Refusal.TheVariants as refusal
use Rattle.table.specs.declared.TableFault.{TableFault}
use Rattle.table.specs.declared.TableFault.TheVariants.{OutOfRange, RuleBroken}

-- 1: "node or task count out of range, timeout 0"; 2: "a table rule broken, with the first such task".
abbrev pub answer_of : rules.Table → Result (Unit {0}) TableFault → Answer rules.Table
answer_of tab (Ok u) = done tab
answer_of tab (Err OutOfRange) = refused 1
answer_of tab (Err (RuleBroken i)) = refused_by 2 i

-- Where no task is told.
abbrev pub refusal_of : TableFault → Refusal
refusal_of OutOfRange = refusal.OutOfRange
refusal_of (RuleBroken i) = refusal.RuleBroken

-- "each at most 4,294,967,295"
unfoldable pub small_numbers : rules.Task → Bool
small_numbers k = all_of ((k.C ≤? 4294967295) ∷ (k.T ≤? 4294967295) ∷ (k.D ≤? 4294967295) ∷ (k.S ≤? 4294967295) ∷ [])

-- "1 ≤ C ≤ D ≤ T; S + C ≤ D; S at least the largest C of any lower-priority task; 1 ≤ timeout ≤ smallest C"
unfoldable pub in_order : ℕ → ℕ → rules.Task → Bool
in_order timeout lower k =
    all_of ((1 ≤? k.C) ∷ (k.C ≤? k.D) ∷ (k.D ≤? k.T) ∷ (k.S + k.C ≤? k.D) ∷ (lower ≤? k.S) ∷ (timeout ≤? k.C) ∷ [])

abbrev pub keeps_numbers : ℕ → ℕ → rules.Task → Bool
keeps_numbers timeout lower k = small_numbers k && in_order timeout lower k

-- The largest C from task `from` on.
unfoldable pub largest_from : List ℕ → ℕ → ℕ → ℕ
largest_from longest from count = foldr max 0 (drop from (rows (λ k. get_or longest k 0) count))

-- The rules of the task at a place of the four arrays.
abbrev pub keeps_at : List ℕ → List ℕ → List ℕ → List ℕ → ℕ → ℕ → ℕ → Bool
keeps_at longest distance deadline slack timeout count i =
    keeps_numbers timeout (largest_from longest (i + 1) count)
    (record { C = get_or longest i 0; T = get_or distance i 0; D = get_or deadline i 0; S = get_or slack i 0 })

-- The first task that breaks a rule, or their number where none does.
unfoldable pub first_breaking : List ℕ → List ℕ → List ℕ → List ℕ → ℕ → ℕ → ℕ
first_breaking longest distance deadline slack timeout count =
    first_from (λ i. not (keeps_at longest distance deadline slack timeout count i)) 0 count
