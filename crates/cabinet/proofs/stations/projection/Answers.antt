-- What is lent looked at, then the position; a line for each way out.
use mathlib.Core.Path.{◌≡◌, sym, ap, ◌∙◌}
use Rattle.rules.specs.Answer.{done, refused}
use Rattle.refusal.proofs.Same.{passed_on}
use Rattle.cabinet.specs.Stations.{projection_door}
use Rattle.cabinet.proofs.Asking.{kept_small, projection_stopped, projection_below, projection_beyond, projection_asked, projection_there}
use Rattle.cabinet.proofs.stations.projection.Goals.{then-position-kept-via-then-position-kept, then-position-kept-via-else-position-kept+then-kept-position}
use Rattle.cabinet.proofs.stations.projection.Goals as goal

pub returns-in_err-table : goal.returns-in_err-table
returns-in_err-table c =
    let a = c.args in
    passed_on _ _ c.from_residual.ensures.1 ∙ sym (projection_stopped a.table.now a.common.now a.position c.in_err-table.ensures)

pub overflow_add-kept : goal.overflow_add-kept
overflow_add-kept c =
    let a = c.args in
    record { fits = kept_small a.table.now a.common.now c.in_ok-table.ensures }

pub returns-then-position-kept : goal.returns-then-position-kept
returns-then-position-kept c =
    let a = c.args in
    let e : projection_door a.table.now a.common.now a.position ≡ refused 104 = elim c.then-position-kept.branch [
      | then-position-kept-via-then-position-kept w ↦ projection_below a.table.now a.common.now a.position c.in_ok-table.ensures w.if-position-kept.true
      | then-position-kept-via-else-position-kept+then-kept-position w ↦ projection_beyond a.table.now a.common.now a.position c.in_ok-table.ensures w.if-position-kept.false w.if-kept-position.true
    ] in
    sym e

pub projection_of-requires : goal.projection_of-requires
projection_of-requires c =
    let a = c.args in
    projection_asked a.table.now a.common.now a.position c.in_ok-table.ensures c.if-position-kept.false c.if-kept-position.false

pub returns : goal.returns
returns c =
    let a = c.args in
    ap done c.projection_of.ensures ∙ sym (projection_there a.table.now a.common.now a.position c.in_ok-table.ensures c.if-position-kept.false c.if-kept-position.false)
