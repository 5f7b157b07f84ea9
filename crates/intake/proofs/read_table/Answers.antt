-- A table, a lemma for each way out: its three numbers, its tasks, and their check.
use Rattle.std.specs.Prelude.{Result, Ok, Err}
use mathlib.Core.Path.{◌≡◌, sym, ap, ap₂, subst, ◌∙◌}
use mathlib.Core.Bool.{true, false}
use mathlib.Core.List.{List}
use Prim.Native.Nat.{ℕ, ◌≤◌}
use borrow.Author.Tests.{ltb-false}
use lib.ListN.{length, drop}
use Rattle.laws.proofs.Tests.{none_of}
use Rattle.rules.specs.Answer.{done, refused}
use Rattle.rules.specs.Table as rules
use Rattle.rules.specs.Numbers.{after, number}
use Rattle.rules.specs.Written.{times}
use Rattle.rules.specs.Session.{read_task, read_table}
use Rattle.rules.proofs.Reading.{Takes, times_takes}
use Rattle.table.specs.declared.Table.{Table}
use Rattle.table.specs.declared.TableFault.{TableFault}
use Rattle.table.specs.declared.TableFault.TheVariants.{OutOfRange, RuleBroken}
use Rattle.table.specs.Table.{table_of}
use Rattle.table.specs.Check.{answer_of, refusal_of}
use Rattle.refusal.specs.Refusal.{number_of}
use Rattle.refusal.proofs.Same.{passed_on}
use Rattle.number.specs.Numbers.{number_read}
use Rattle.number.proofs.Told.{Gave, told_value, told_stop, place_at}
use Rattle.number.proofs.One.{is_bad, is_done, is_on}
use Rattle.intake.specs.Table.{table_as, table_read, under, tasks_read, answered, checked_tasks}
use Rattle.intake.proofs.Tasks.{task_takes, table_back}
use Rattle.intake.proofs.Parts.{table_parts}
use Rattle.intake.proofs.read_table.Goals as goal

module _ (s : List ℕ) where
  no_nodes : {n : ℕ} → refused n ≡ number_read s (number s) → read_table s ≡ refused n
  no_nodes p = rw (table_parts s, is_bad s 0 p)

  module _ {m second : ℕ} (p : done (m, second) ≡ number_read s (number s)) where
    no_timeout : {n : ℕ} → refused n ≡ number_read s (number (drop second s)) → read_table s ≡ refused n
    no_timeout q = rw (table_parts s, is_done s 0 p, is_bad s second q)

    module _ {timeout third : ℕ} (q : done (timeout, third) ≡ number_read s (number (drop second s))) where
      no_count : {n : ℕ} → refused n ≡ number_read s (number (drop third s)) → read_table s ≡ refused n
      no_count o = rw (table_parts s, is_done s 0 p, is_done s second q, is_bad s third o)

      module _ {count from : ℕ} (o : done (count, from) ≡ number_read s (number (drop third s))) where
        out : true ≡ rules.out_of_range m timeout count → read_table s ≡ refused 1
        out h = rw (table_parts s, is_done s 0 p, is_done s second q, is_done s third o, ← h)

        module _ (h : false ≡ rules.out_of_range m timeout count) where
          tasks_asked : (count ≤ 64) × (from ≤ length s)
          unfolding rules.out_of_range
          tasks_asked = (ltb-false 64 count (none_of _ (sym h) 3), is_on s third o)

          counted_is : read_table s ≡ checked_tasks m timeout count (drop from s)
          counted_is = rw (table_parts s, is_done s 0 p, is_done s second q, is_done s third o, ← h)

          takes : Takes (times count read_task)
          takes = times_takes count task_takes

          no_tasks : {n : ℕ} → refused n ≡ tasks_read m timeout s (times count read_task (drop from s)) → read_table s ≡ refused n
          no_tasks t = rw (counted_is, told_stop (λ tasks. table_as (under m timeout tasks)) takes s from (sym t))

          module _ {table : Table} {used : ℕ} (t : done (table, used) ≡ tasks_read m timeout s (times count read_task (drop from s))) where
            gave : Gave (λ tasks. table_as (under m timeout tasks)) s (times count read_task (drop from s)) table used
            gave = told_value (λ tasks. table_as (under m timeout tasks)) takes s from (sym t)

            listed_is : read_table s ≡ answered (drop used s) (rules.check (under m timeout gave.value))
            listed_is = counted_is ∙ ap (λ a. after a (λ tasks u. answered u (rules.check (under m timeout tasks)))) gave.was.is

            -- what the check of the table in hand says of the table that was read
            said : (r : Result (Unit {0}) TableFault) → answer_of (table_of table) r ≡ rules.check (table_of table)
                → rules.check (under m timeout gave.value) ≡ answer_of (under m timeout gave.value) r
            said r k =
                sym (subst (λ (x : rules.Table). answer_of x r ≡ rules.check x) (ap table_of (sym gave.same) ∙ table_back (under m timeout gave.value)) k)

            faulty : (f : TableFault) → answer_of (table_of table) (Err f) ≡ rules.check (table_of table) → table_read s (read_table s) ≡ refused (number_of (refusal_of f))
            faulty OutOfRange k = rw (listed_is, said (Err OutOfRange) k)
            faulty (RuleBroken i) k = rw (listed_is, said (Err (RuleBroken i)) k)

            sound : answer_of (table_of table) (Ok tt) ≡ rules.check (table_of table) → done (table, used) ≡ table_read s (read_table s)
            sound k =
                ap₂ (λ (x : Table) (n : ℕ). done (x, n)) (sym gave.same) (sym (place_at s used gave.was.on))
                ∙ sym (ap (table_read s) (listed_is ∙ ap (answered (drop used s)) (said (Ok tt) k)))

pub returns-in_err-nodes : goal.returns-in_err-nodes
returns-in_err-nodes c = passed_on _ _ c.from_residual.ensures.1 ∙ rw (no_nodes c.args.bytes.now c.in_err-nodes.ensures)

pub returns-in_err-timeout : goal.returns-in_err-timeout
returns-in_err-timeout c =
    passed_on _ _ c.from_residual-in_err-timeout.ensures.1 ∙ rw (no_timeout c.args.bytes.now c.in_ok-nodes.ensures c.in_err-timeout.ensures)

pub returns-in_err-count : goal.returns-in_err-count
returns-in_err-count c =
    passed_on _ _ c.from_residual-in_err-count.ensures.1
    ∙ rw (no_count c.args.bytes.now c.in_ok-nodes.ensures c.in_ok-timeout.ensures c.in_err-count.ensures)

pub returns-then-out_of_range : goal.returns-then-out_of_range
returns-then-out_of_range c = rw (out c.args.bytes.now c.in_ok-nodes.ensures c.in_ok-timeout.ensures c.in_ok-count.ensures c.if-out_of_range.ensures)

pub list_tasks-requires : goal.list_tasks-requires
list_tasks-requires c = tasks_asked c.args.bytes.now c.in_ok-nodes.ensures c.in_ok-timeout.ensures c.in_ok-count.ensures c.if-out_of_range.ensures

pub returns-in_err-table : goal.returns-in_err-table
returns-in_err-table c =
    passed_on _ _ c.from_residual-in_err-table.ensures.1
    ∙ rw (no_tasks c.args.bytes.now c.in_ok-nodes.ensures c.in_ok-timeout.ensures c.in_ok-count.ensures c.if-out_of_range.ensures c.in_err-table.ensures)

pub returns-in_err-check_table : goal.returns-in_err-check_table
returns-in_err-check_table c =
    passed_on _ _ c.from_residual-in_err-check_table.ensures.1
    ∙ sym (faulty c.args.bytes.now c.in_ok-nodes.ensures c.in_ok-timeout.ensures c.in_ok-count.ensures c.if-out_of_range.ensures c.in_ok-table.ensures
    c.in_err-check_table.field-0.0 c.in_err-check_table.ensures)

pub returns : goal.returns
returns c =
    sound c.args.bytes.now c.in_ok-nodes.ensures c.in_ok-timeout.ensures c.in_ok-count.ensures c.if-out_of_range.ensures c.in_ok-table.ensures
    c.in_ok-check_table.ensures
