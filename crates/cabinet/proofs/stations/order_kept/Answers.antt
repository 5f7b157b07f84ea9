-- What is lent looked at, the room, then the tasks put in; a line for each way out.
use mathlib.Core.Path.{ap}
use native.Mathlib.Omega.{arith}
use Rattle.rules.specs.Answer.{done}
use Rattle.refusal.proofs.Same.{passed_on}
use Rattle.cabinet.proofs.Ordering.{order_stopped, order_few, order_short, order_fits, order_told, order_count}
use Rattle.cabinet.proofs.stations.order_kept.Goals as goal

pub returns-in_err-kept : goal.returns-in_err-kept
returns-in_err-kept c =
    let a = c.args in
    let e = order_stopped a.table.now a.common.now a.order.now c.in_err-kept.ensures in
    record { answer = rw e (passed_on _ _ c.from_residual.ensures.1); order_after = rw e }

pub returns-then-order-kept : goal.returns-then-order-kept
returns-then-order-kept c =
    let a = c.args in
    let e = order_short a.table.now a.common.now a.order.now c.in_ok-kept.ensures c.if-order-kept.true in
    record { answer = rw e; order_after = rw e }

pub shared_ref_as_front-put_order : goal.shared_ref_as_front-put_order
shared_ref_as_front-put_order c =
    let a = c.args in
    omega (arith, order_few a.table.now a.common.now a.order.now c.in_ok-kept.ensures)

pub put_order-requires : goal.put_order-requires
put_order-requires c =
    let a = c.args in
    order_fits a.table.now a.common.now a.order.now c.in_ok-kept.ensures c.if-order-kept.false

pub returns : goal.returns
returns c =
    let a = c.args in
    let e = order_told a.table.now a.common.now a.order.now c.in_ok-kept.ensures c.if-order-kept.false in
    record { answer = rw e (ap done (order_count a.table.now a.common.now a.order.now c.in_ok-kept.ensures c.if-order-kept.false)); order_after = rw e c.put_order.ensures }
