-- The task table.
use Rattle.std.specs.Prelude.{Bool, not, ℕ, suc, ◌+◌, max, length, drop, get_or}
use mathlib.Core.List.{List, [], ◌∷◌, foldr}
use Rattle.laws.specs.Tests.{◌<?◌, ◌≤?◌, any_of, all_of}
use Rattle.laws.specs.Search.{lowest}
use Rattle.rules.specs.Answer.{Answer, done, refuse◌if◌else◌, refuse◌naming◌else◌}

-- "Each task has a longest execution C, least distance between releases T, deadline D and slack S."
pub record Task : Type 0 where
  pub C : ℕ
  pub T : ℕ
  pub D : ℕ
  pub S : ℕ

-- "1 to 15 nodes (m), 1 to 64 tasks, a timeout."
pub record Table : Type 0 where
  pub m : ℕ
  pub timeout : ℕ
  pub tasks : List Task

abbrev pub task : Table → ℕ → Task
task tab i = get_or tab.tasks i (record { C = 0; T = 0; D = 0; S = 0 })

-- "S at least the largest C of any lower-priority task"; "Task 0 has the highest priority".
unfoldable pub largest_lower_C : Table → ℕ → ℕ
largest_lower_C tab i = foldr (λ k c. max k.C c) 0 (drop (suc i) tab.tasks)

-- "each at most 4,294,967,295. Required: 1 ≤ C ≤ D ≤ T; S + C ≤ D; S at least the largest C of any lower-priority task;
-- 1 ≤ timeout ≤ smallest C". A timeout that is too long breaks the rule of each task with C < timeout.
unfoldable pub keeps_rules : Table → ℕ → Bool
keeps_rules tab i =
    let k = task tab i in
    all_of (
    (k.C ≤? 4294967295) ∷ (k.T ≤? 4294967295) ∷ (k.D ≤? 4294967295) ∷ (k.S ≤? 4294967295)
    ∷ (1 ≤? k.C) ∷ (k.C ≤? k.D) ∷ (k.D ≤? k.T) ∷ (k.S + k.C ≤? k.D)
    ∷ (largest_lower_C tab i ≤? k.S) ∷ (tab.timeout ≤? k.C) ∷ [])

-- 1: "node or task count out of range, timeout 0"
unfoldable pub out_of_range : ℕ → ℕ → ℕ → Bool
out_of_range m timeout count = any_of ((m <? 1) ∷ (15 <? m) ∷ (count <? 1) ∷ (64 <? count) ∷ (timeout <? 1) ∷ [])

-- "Order: table 1, 2"; 2: "a table rule broken, with the first such task; a timeout that is too long names the first task with C < timeout"
unfoldable pub check : Table → Answer Table
check tab =
    refuse 1 if out_of_range tab.m tab.timeout (length tab.tasks)
    else refuse 2 naming lowest (λ i. not (keeps_rules tab i)) (length tab.tasks)
    else done tab
