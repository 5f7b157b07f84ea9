-- What is lent looked at, then the time and the position; a line for each way out.
use mathlib.Core.Path.{◌≡◌, sym, ◌∙◌}
use Rattle.rules.specs.Answer.{refused}
use Rattle.node.proofs.Passing.{denied_on}
use Rattle.cabinet.specs.Stations.{bound_door}
use Rattle.cabinet.proofs.Asking.{kept_small, bound_stopped, bound_late, bound_below, bound_beyond, bound_asked, bound_met, bound_broken}
use Rattle.cabinet.proofs.stations.bound.Goals.{then-position-kept-via-then-position-kept, then-position-kept-via-else-position-kept+then-kept-position}
use Rattle.cabinet.proofs.stations.bound.Goals as goal

pub returns-in_err-table : goal.returns-in_err-table
returns-in_err-table c =
    let a = c.args in
    denied_on _ _ c.from_residual.ensures.1 ∙ sym (bound_stopped a.table.now a.common.now a.position a.time c.in_err-table.ensures)

pub returns-then-time-ge281474976710656 : goal.returns-then-time-ge281474976710656
returns-then-time-ge281474976710656 c =
    let a = c.args in
    sym (bound_late a.table.now a.common.now a.position a.time c.in_ok-table.ensures c.if-time-ge281474976710656.true)

pub overflow_add-kept : goal.overflow_add-kept
overflow_add-kept c =
    let a = c.args in
    record { fits = kept_small a.table.now a.common.now c.in_ok-table.ensures }

pub returns-then-position-kept : goal.returns-then-position-kept
returns-then-position-kept c =
    let a = c.args in
    let e : bound_door a.table.now a.common.now a.position a.time ≡ refused 104 = elim c.then-position-kept.branch [
      | then-position-kept-via-then-position-kept w ↦ bound_below a.table.now a.common.now a.position a.time c.in_ok-table.ensures c.if-time-ge281474976710656.false w.if-position-kept.true
      | then-position-kept-via-else-position-kept+then-kept-position w ↦ bound_beyond a.table.now a.common.now a.position a.time c.in_ok-table.ensures c.if-time-ge281474976710656.false w.if-position-kept.false w.if-kept-position.true
    ] in
    sym e

pub bound_of-requires : goal.bound_of-requires
bound_of-requires c =
    let a = c.args in
    bound_asked a.table.now a.common.now a.position a.time c.in_ok-table.ensures c.if-time-ge281474976710656.false c.if-position-kept.false c.if-kept-position.false

pub returns-in-None : goal.returns-in-None
returns-in-None c =
    let a = c.args in
    sym (bound_met a.table.now a.common.now a.position a.time c.in_ok-table.ensures c.if-time-ge281474976710656.false c.if-position-kept.false c.if-kept-position.false c.in-None.ensures)

pub returns-in-Some : goal.returns-in-Some
returns-in-Some c =
    let a = c.args in
    sym (bound_broken a.table.now a.common.now a.position a.time c.in_ok-table.ensures c.if-time-ge281474976710656.false c.if-position-kept.false c.if-kept-position.false c.in-Some.ensures)
