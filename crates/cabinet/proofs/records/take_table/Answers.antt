-- The length, then what the reader told; a line for each way out.
use mathlib.Core.Path.{◌∙◌}
use Rattle.refusal.proofs.Same.{passed_on}
use Rattle.cabinet.proofs.Reading.{table_unfit, table_not_read, table_was_read}
use Rattle.cabinet.proofs.records.take_table.Goals as goal

pub returns-then-table-ne259 : goal.returns-then-table-ne259
returns-then-table-ne259 c =
    let e = table_unfit c.args.bytes.now c.args.table.now c.if-table-ne259.true in
    record { answer = rw e; table_after = rw e }

pub returns-in_err-read : goal.returns-in_err-read
returns-in_err-read c =
    let p = table_not_read c.args.bytes.now c.args.table.now c.if-table-ne259.false c.in_err-read.ensures in
    record { answer = passed_on _ _ c.from_residual.ensures.1 ∙ p.0; table_after = p.1 }

pub returns : goal.returns
returns c =
    let p = table_was_read c.args.bytes.now c.args.table.now c.if-table-ne259.false c.in_ok-read.ensures in
    record { answer = p.0; table_after = c.put_table.ensures ∙ p.1 }
