-- What a checked table keeps: the counts, and for each task its rules as inequalities.
use mathlib.Core.Path.{◌≡◌}
use mathlib.Core.Logic.{◌⊎◌, inl, inr}
use mathlib.Core.Bool.{Bool, true, not}
use mathlib.Core.List.{List, [], ◌∷◌, foldr}
use Prim.Native.Nat.{ℕ, zero, suc, ◌+◌, ◌-◌, ◌≤◌, ◌<◌, max}
use native.Mathlib.Omega.{arith}
use lib.ListN.{length, drop, get_or, get_or-eq_default}
use lib.Seq.{get_or-drop}
use borrow.Author.Tests.{ltb-false, leb-true, not-false}
use Rattle.laws.specs.Search.{lowest}
use Rattle.laws.proofs.Tests.{lt_or_ge, none_of, each_of}
use Rattle.laws.proofs.Search.{none_found}
use Rattle.rules.specs.Answer.{done}
use Rattle.rules.specs.Table.{Task, Table, task, largest_lower_C, keeps_rules, out_of_range, check}
use Rattle.rules.proofs.Answers.{passed, passed_naming}

-- "each at most 4,294,967,295"
pub record Small (k : Task) : Type 0 where
  pub C_small : k.C ≤ 4294967295
  pub T_small : k.T ≤ 4294967295
  pub D_small : k.D ≤ 4294967295
  pub S_small : k.S ≤ 4294967295

-- "Required: 1 ≤ C ≤ D ≤ T; S + C ≤ D; S at least the largest C of any lower-priority task; 1 ≤ timeout ≤ smallest C"
pub record Keeps (tab : Table) (i : ℕ) : Type 0 where
  pub small : Small (task tab i)
  pub some_C : 1 ≤ (task tab i).C
  pub C_D : (task tab i).C ≤ (task tab i).D
  pub D_T : (task tab i).D ≤ (task tab i).T
  pub S_C : (task tab i).S + (task tab i).C ≤ (task tab i).D
  pub lower : (j : ℕ) → i < j → (task tab j).C ≤ (task tab i).S
  pub timely : tab.timeout ≤ (task tab i).C

-- "1 to 15 nodes (m), 1 to 64 tasks, a timeout"
pub record Fit (tab : Table) : Type 0 where
  pub nodes : (1 ≤ tab.m) × (tab.m ≤ 15)
  pub tasks : (1 ≤ length tab.tasks) × (length tab.tasks ≤ 64)
  pub timeout : 1 ≤ tab.timeout
  pub each : (i : ℕ) → i < length tab.tasks → Keeps tab i

abbrev no_task : Task
no_task = record { C = 0; T = 0; D = 0; S = 0 }

largest : (l : List Task) (k : ℕ) → (get_or l k no_task).C ≤ foldr (λ k c. max k.C c) 0 l
largest [] k = omega arith
largest (x ∷ l) zero = omega arith
largest (x ∷ l) (suc k) = omega (arith, largest l k)

lower_C : (tab : Table) (i j : ℕ) → i < j → (task tab j).C ≤ largest_lower_C tab i
unfolding largest_lower_C
lower_C tab i j h =
    let e : suc i + (j - suc i) ≡ j = omega arith in
    let k = largest (drop (suc i) tab.tasks) (j - suc i) in
    rw (get_or-drop (suc i) tab.tasks (j - suc i) no_task, e) at k

keeps : (tab : Table) (i : ℕ) → keeps_rules tab i ≡ true → Keeps tab i
unfolding keeps_rules
keeps tab i h =
    let k = each_of _ h in
    let s : largest_lower_C tab i ≤ (task tab i).S = leb-true _ _ (k 8) in
    record {
      small = record { C_small = leb-true _ _ (k 0); T_small = leb-true _ _ (k 1); D_small = leb-true _ _ (k 2); S_small = leb-true _ _ (k 3) };
      some_C = leb-true _ _ (k 4);
      C_D = leb-true _ _ (k 5);
      D_T = leb-true _ _ (k 6);
      S_C = leb-true _ _ (k 7);
      lower = λ j l. omega (arith, lower_C tab i j l);
      timely = leb-true _ _ (k 9);
    }

broken : Table → ℕ → Bool
broken tab i = not (keeps_rules tab i)

pub fit : {tab u : Table} → check tab ≡ done u → Fit tab
unfolding check out_of_range broken
fit {tab} h =
    let a = passed 1 _ h in
    let b = passed_naming 2 (lowest (broken tab) (length tab.tasks)) {rest = done tab} a.1 in
    let o = none_of _ a.0 in
    record {
      nodes = (ltb-false _ _ (o 0), ltb-false _ _ (o 1));
      tasks = (ltb-false _ _ (o 2), ltb-false _ _ (o 3));
      timeout = ltb-false _ _ (o 4);
      each = λ i l. keeps tab i (not-false _ (none_found (broken tab) _ b.0 i l));
    }

-- a task that the table does not have is all zeros, so the limits hold of every number
pub limits : {tab : Table} → Fit tab → (i : ℕ) → Small (task tab i)
limits {tab} f i = by (lt_or_ge i (length tab.tasks))
  where
    none : Small no_task
    none = record { C_small = omega arith; T_small = omega arith; D_small = omega arith; S_small = omega arith }

    by : (i < length tab.tasks) ⊎ (length tab.tasks ≤ i) → Small (task tab i)
    by (inl h) = (f.each i h).small
    by (inr h) = rw (get_or-eq_default tab.tasks no_task h) none

pub timeout_small : {tab : Table} → Fit tab → tab.timeout ≤ 4294967295
timeout_small f = let k = f.each 0 f.tasks.0 in omega (arith, k.timely, k.small.C_small)
