-- So many tasks, read into the arrays one by one.
use mathlib.Core.Path.{◌≡◌, sym, ap, ap₂, ◌∙◌}
use mathlib.Core.List.{List, [], ◌∷◌, ◌++◌}
use Prim.Native.Nat.{ℕ, ◌+◌, ◌≤◌, ◌<◌}
use native.Mathlib.Omega.{arith}
use lib.ListN.{length, drop}
use Rattle.rules.specs.Answer.{done, refused}
use Rattle.rules.specs.Written.{times}
use Rattle.rules.specs.Session.{read_task}
use Rattle.table.specs.declared.Table.{Table}
use Rattle.table.specs.Table.{blank_table}
use Rattle.refusal.proofs.Same.{passed_on}
use Rattle.number.specs.Numbers.{placed}
use Rattle.number.proofs.Told.{told_value, told_stop, place_at}
use Rattle.number.proofs.Listing.{listing_start, listing_done, listing_stop, listing_more}
use Rattle.intake.specs.declared.Task.{Task}
use Rattle.intake.specs.Table.{task_as, with_task, tasks_read}
use Rattle.intake.proofs.Tasks.{so_far, put_in, task_takes}
use Rattle.intake.proofs.list_tasks.Invariants.{Inv}
use Rattle.intake.proofs.list_tasks.Goals as goal

inv_start : {s : List ℕ} {from m timeout count : ℕ} {table : Table} → from ≤ length s → table ≡ blank_table m timeout count → Inv s from m timeout count table from 0
inv_start {s} {from} {m} {timeout} {count} h e = record { acc = []; reading = listing_start read_task s from count h; holds = e }

module _ {s : List ℕ} {from m timeout count : ℕ} {table : Table} {at i : ℕ} (v : Inv s from m timeout count table at i) where
  inv_done : count ≤ i → done (table, at) ≡ tasks_read m timeout s (times count read_task (drop from s))
  inv_done h =
      let e : count ≡ length v.acc = omega (arith, v.reading.many, v.reading.to) in
      ap₂ (λ (t : Table) (n : ℕ). done (t, n)) (v.holds ∙ ap (λ (n : ℕ). so_far m timeout n v.acc) e) (sym (place_at s at v.reading.on))
      ∙ ap (tasks_read m timeout s) (sym (listing_done v.reading h))

  module _ (h : i < count) where
    inv_stop : {n : ℕ} → refused n ≡ placed task_as s (read_task (drop at s)) → tasks_read m timeout s (times count read_task (drop from s)) ≡ refused n
    inv_stop p = rw (listing_stop v.reading h (told_stop task_as task_takes s at (sym p)))

    inv_more : {x : Task} {next : ℕ} {u : Table} → count ≤ 64 → done (x, next) ≡ placed task_as s (read_task (drop at s)) → u ≡ with_task table i x → Inv s from m timeout count u next (i + 1)
    inv_more {x} {next} {u} l p e =
        let t = told_value task_as task_takes s at (sym p) in
        let n : i ≡ length v.acc = sym v.reading.many in
        record {
          acc = v.acc ++ (t.value ∷ []);
          reading = listing_more v.reading h t.was;
          holds =
              e ∙ ap₂ (λ (t : Table) (k : Task). with_task t i k) v.holds (sym t.same)
              ∙ ap (λ (j : ℕ). with_task (so_far m timeout count v.acc) j (task_as t.value)) n
              ∙ put_in m timeout count v.acc t.value (omega arith);
        }

pub returns-in_err-x : goal.returns-in_err-x
returns-in_err-x c = passed_on _ _ c.from_residual.ensures.1 ∙ sym (inv_stop c.loop-i.invariant c.loop-i-test.true c.in_err-x.ensures)

pub loop-i-init : goal.loop-i-init
loop-i-init c = inv_start c.requires.1 c.blank-table.ensures

pub loop-i-preserved : goal.loop-i-preserved
loop-i-preserved c = inv_more c.loop-i.invariant c.loop-i-test.true c.requires.0 c.in_ok-x.ensures c.put_task.ensures

pub returns : goal.returns
returns c = inv_done c.loop-i.invariant c.loop-i-test.false
