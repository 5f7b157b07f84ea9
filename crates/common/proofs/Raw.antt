-- What is read off the arrays is what the rules say of the table and the record, and both may be asked of a checked table and a record that was given back.
use mathlib.Core.Path.{◌≡◌, refl, ap, ◌∙◌}
use mathlib.Core.List.{List}
use Prim.Native.Nat.{ℕ, ◌+◌, ◌-◌, ◌^◌, ◌≤◌, ◌<◌}
use native.Mathlib.Omega.{arith}
use lib.ListN.{get_or}
use Rattle.laws.specs.Search.{lowest}
use Rattle.laws.specs.Sums.{total}
use Rattle.laws.proofs.Search.{lowest_same}
use Rattle.laws.proofs.Sequences.{rows_take, rows_same}
use Rattle.rules.specs.Table.{task, Task}
use Rattle.rules.specs.Common as rules
use Rattle.rules.proofs.Projecting.{projection_below}
use Rattle.table.specs.Table.{table_of, Checked}
use Rattle.table.specs.declared.Table.{Table}
use Rattle.table.proofs.Facts.{tasks_count, task_row, checked_fit, ranges}
use Rattle.common.specs.declared.Common.{Common}
use Rattle.common.specs.Common.{common_of, Given}
use Rattle.common.specs.Raw.{earliest_of, projected_at, breaker_at, Summable, Boundable}
use Rattle.common.proofs.Records.{kept_count, job_there, numbers}

pub earliest_raw : (c : Common) (i time : ℕ) → rules.earliest (common_of c) i time ≡ earliest_of c.earliest i time
unfolding rules.earliest earliest_of
earliest_raw c i time = refl

module _ {t : Table} {c : Common} (g : Given t c) where
  abbrev cost : rules.Job → ℕ
  cost j = (task (table_of t) j.task_of).C

  cost_there : (k : ℕ) → k < c.count → cost (get_or (common_of c).kept k rules.no_job) ≡ get_or t.longest (get_or c.tasks k 0) 0
  cost_there k h =
      ap (λ i. (task (table_of t) i).C) (job_there g k h) ∙ ap (λ (x : Task). x.C) (task_row t (get_or c.tasks k 0) ((numbers g).task k h))

  pub projection_raw : (p : ℕ) → p ≤ c.base + c.count
      → rules.projection (table_of t) (common_of c) p ≡ projected_at t.longest c.tasks c.start (p - c.base)
  unfolding rules.projection projected_at
  projection_raw p h =
      ap (λ (l : List ℕ). c.start + total l)
      (rows_take cost (common_of c).kept rules.no_job (p - c.base) (omega (arith, kept_count g))
      ∙ rows_same _ _ (p - c.base) (λ k l. cost_there k (omega arith)))

  pub breaker_raw : (p time : ℕ) → c.base < p → p ≤ c.base + c.count
      → rules.breaker (table_of t) (common_of c) p time
      ≡ breaker_at c.earliest t.slack t.count (get_or c.tasks (p - c.base - 1) 0) (rules.projection (table_of t) (common_of c) p) time
  unfolding rules.breaker rules.breaks rules.earliest breaker_at earliest_of
  breaker_raw p time b h =
      let j = job_there g (p - c.base - 1) (omega arith) in
      ap (lowest (rules.breaks (table_of t) (common_of c) p time)) (tasks_count t)
      ∙ lowest_same _ _ t.count (λ i l. rw (j, task_row t i l))

module _ {t : Table} {c : Common} (k : Checked t) (g : Given t c) where
  pub summable : (n : ℕ) → n ≤ c.count → Summable t.longest c.tasks c.start n
  summable n h = record {
    few = omega (arith, (numbers g).few);
    known = λ i l. omega (arith, (numbers g).task i (omega arith), (ranges k).few);
    small = λ i l. (ranges k).longest (get_or c.tasks i 0) ((numbers g).task i (omega arith));
    soon = (numbers g).start;
  }

  pub boundable : (time : ℕ) → time < 2 ^ 49 → Boundable c.earliest t.slack t.count time
  boundable time h = record { few = (ranges k).few; soon = λ i l. (numbers g).earliest i; small = (ranges k).slack; time = h }

  pub projection_small : (p : ℕ) → rules.projection (table_of t) (common_of c) p < 2 ^ 50
  projection_small p = projection_below (checked_fit k) g.sound p
