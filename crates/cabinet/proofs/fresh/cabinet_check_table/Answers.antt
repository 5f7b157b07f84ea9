-- The length, then what the check answers; a line for each way out.
use mathlib.Core.Path.{sym}
use Rattle.cabinet.proofs.Beginning.{check_unfit, check_fit}
use Rattle.cabinet.proofs.fresh.cabinet_check_table.Goals as goal

pub returns-then-table-ne259 : goal.returns-then-table-ne259
returns-then-table-ne259 c = rw (check_unfit c.args.table.now c.if-table-ne259.true) c.refused.ensures

pub returns-in-Ok : goal.returns-in-Ok
returns-in-Ok c = rw (check_fit c.args.table.now c.if-table-ne259.false c.table_of.ensures, sym c.in-Ok.ensures) c.accepted.ensures

pub returns-in-Err-OutOfRange : goal.returns-in-Err-OutOfRange
returns-in-Err-OutOfRange c =
    rw (check_fit c.args.table.now c.if-table-ne259.false c.table_of.ensures, sym c.in-Err-OutOfRange.ensures, c.in-Err-OutOfRange.field-0-is) c.refused-in-Err-OutOfRange.ensures

pub returns-in-Err-RuleBroken : goal.returns-in-Err-RuleBroken
returns-in-Err-RuleBroken c = rw (check_fit c.args.table.now c.if-table-ne259.false c.table_of.ensures, sym c.in-Err-RuleBroken.ensures, c.in-Err-RuleBroken.field-0-is)
