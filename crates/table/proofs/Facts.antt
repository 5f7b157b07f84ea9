-- What is known of a checked table, in the numbers of its arrays.
use mathlib.Core.Path.{◌≡◌, ap}
use Prim.Native.Nat.{ℕ, ◌≤◌, ◌<◌}
use native.Mathlib.Omega.{arith}
use lib.ListN.{length, get_or}
use Rattle.laws.proofs.Lists.{length_rows, rows_at}
use Rattle.rules.specs.Table as rules
use Rattle.rules.proofs.Tables.{Fit, Keeps, fit}
use Rattle.table.specs.declared.Table.{Table}
use Rattle.table.specs.Table.{row, table_of, Checked}

pub tasks_count : (t : Table) → length (table_of t).tasks ≡ t.count
tasks_count t = length_rows (row t) t.count

pub task_row : (t : Table) (i : ℕ) → i < t.count → rules.task (table_of t) i ≡ row t i
task_row t i h = rows_at (row t) t.count i _ h

pub checked_fit : {t : Table} → Checked t → Fit (table_of t)
checked_fit k = fit k.passes

-- "each at most 4,294,967,295. Required: 1 ≤ C ≤ D ≤ T; S + C ≤ D; 1 ≤ timeout ≤ smallest C"
pub record Ranges (t : Table) : Type 0 where
  pub some_node : 1 ≤ t.nodes
  pub nodes : t.nodes ≤ 15
  pub some_task : 1 ≤ t.count
  pub few : t.count ≤ 64
  pub some_timeout : 1 ≤ t.timeout
  pub timeout : t.timeout ≤ 4294967295
  pub longest : (i : ℕ) → i < t.count → get_or t.longest i 0 ≤ 4294967295
  pub distance : (i : ℕ) → i < t.count → get_or t.distance i 0 ≤ 4294967295
  pub deadline : (i : ℕ) → i < t.count → get_or t.deadline i 0 ≤ 4294967295
  pub slack : (i : ℕ) → i < t.count → get_or t.slack i 0 ≤ 4294967295
  pub some_longest : (i : ℕ) → i < t.count → 1 ≤ get_or t.longest i 0
  pub some_distance : (i : ℕ) → i < t.count → 1 ≤ get_or t.distance i 0
  pub timely : (i : ℕ) → i < t.count → t.timeout ≤ get_or t.longest i 0

module _ {t : Table} (k : Checked t) where
  f : Fit (table_of t)
  f = checked_fit k

  keeps : (i : ℕ) → i < t.count → Keeps (table_of t) i
  keeps i h = f.each i (omega (arith, tasks_count t))

  C_is : (i : ℕ) → i < t.count → (rules.task (table_of t) i).C ≡ get_or t.longest i 0
  C_is i h = ap (λ (x : rules.Task). x.C) (task_row t i h)

  T_is : (i : ℕ) → i < t.count → (rules.task (table_of t) i).T ≡ get_or t.distance i 0
  T_is i h = ap (λ (x : rules.Task). x.T) (task_row t i h)

  D_is : (i : ℕ) → i < t.count → (rules.task (table_of t) i).D ≡ get_or t.deadline i 0
  D_is i h = ap (λ (x : rules.Task). x.D) (task_row t i h)

  S_is : (i : ℕ) → i < t.count → (rules.task (table_of t) i).S ≡ get_or t.slack i 0
  S_is i h = ap (λ (x : rules.Task). x.S) (task_row t i h)

  some_task' : 1 ≤ t.count
  some_task' = omega (arith, f.tasks.0, tasks_count t)

  pub ranges : Ranges t
  ranges = record {
    some_node = f.nodes.0;
    nodes = f.nodes.1;
    some_task = some_task';
    few = omega (arith, f.tasks.1, tasks_count t);
    some_timeout = f.timeout;
    timeout = omega (arith, (keeps 0 some_task').timely, (keeps 0 some_task').small.C_small);
    longest = λ i h. omega (arith, C_is i h, (keeps i h).small.C_small);
    distance = λ i h. omega (arith, T_is i h, (keeps i h).small.T_small);
    deadline = λ i h. omega (arith, D_is i h, (keeps i h).small.D_small);
    slack = λ i h. omega (arith, S_is i h, (keeps i h).small.S_small);
    some_longest = λ i h. omega (arith, C_is i h, (keeps i h).some_C);
    some_distance = λ i h. omega (arith, T_is i h, (keeps i h).some_C, (keeps i h).C_D, (keeps i h).D_T);
    timely = λ i h. omega (arith, C_is i h, (keeps i h).timely);
  }
