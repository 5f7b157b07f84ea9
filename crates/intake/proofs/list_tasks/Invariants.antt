-- So many tasks, read into the arrays one by one.
use mathlib.Core.Path.{◌≡◌}
use mathlib.Core.List.{List}
use Prim.Native.Nat.{ℕ}
use Rattle.rules.specs.Table as rules
use Rattle.rules.specs.Session.{read_task}
use Rattle.table.specs.declared.Table.{Table}
use Rattle.number.proofs.Listing.{Listing}
use Rattle.intake.proofs.Tasks.{so_far}
use Rattle.intake.proofs.list_tasks.Given as goal

pub record Inv (s : List ℕ) (from m timeout count : ℕ) (table : Table) (at i : ℕ) : Type 0 where
  pub acc : List rules.Task
  pub reading : Listing read_task s from count acc at i
  pub holds : table ≡ so_far m timeout count acc

abbrev pub invariant-loop-i : goal.invariant-loop-i
invariant-loop-i l = Inv l.bytes l.from l.nodes l.timeout l.count l.table l.at l.i
