-- A look: the table, then the state under it; a line for each way out.
use mathlib.Core.Path.{sym, ◌∙◌}
use Rattle.refusal.proofs.Same.{passed_on}
use Rattle.words.proofs.Table.{at_checked}
use Rattle.cabinet.specs.Looks.{looked_at}
use Rattle.cabinet.proofs.looks.look_at.Goals as goal

pub returns-in_err-table : goal.returns-in_err-table
unfolding looked_at
returns-in_err-table g c = passed_on _ _ c.from_residual.ensures.1 ∙ rw (sym c.in_err-table.ensures)

pub read-requires : goal.read-requires
read-requires g c = at_checked c.args.table.now (sym c.in_ok-table.ensures)

pub returns-in_err-state : goal.returns-in_err-state
unfolding looked_at
returns-in_err-state g c =
    passed_on _ _ c.from_residual-in_err-state.ensures.1 ∙ rw (sym c.in_ok-table.ensures, sym c.in_err-state.ensures)

pub returns : goal.returns
unfolding looked_at
returns g c = rw (sym c.in_ok-table.ensures, sym c.in_ok-state.ensures)
