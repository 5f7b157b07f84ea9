-- A start: what is lent looked at, then the start; a lemma for each way out.
use mathlib.Core.Path.{◌∙◌}
use Rattle.node.proofs.Passing.{denied_on, start_on}
use Rattle.cabinet.proofs.Doing.{start_halts, start_refused, start_starts}
use Rattle.cabinet.proofs.Watching.{held_checked, held_given, held_long}
use Rattle.cabinet.proofs.nodes.start.Goals as goal

pub returns-in_err-table : goal.returns-in_err-table
returns-in_err-table c =
    let a = c.args in
    let e = start_halts a.table.now a.node.now c.in_err-table.ensures a.time in
    record { answer = denied_on _ _ c.from_residual.ensures.1 ∙ rw e; node_after = rw e }

pub start_node-requires : goal.start_node-requires
start_node-requires c =
    let a = c.args in
    record { checked = held_checked a.table.now a.node.now c.in_ok-table.ensures; given = held_given a.table.now a.node.now c.in_ok-table.ensures }

pub returns-in_err-started : goal.returns-in_err-started
returns-in_err-started c =
    let a = c.args in
    let p = start_refused a.table.now a.node.now c.in_ok-table.ensures a.time _ c.in_err-started.ensures in
    record { answer = start_on _ _ c.from_residual-in_err-started.ensures.1 ∙ p.0; node_after = p.1 }

pub put_node-requires : goal.put_node-requires
put_node-requires c = held_long c.args.table.now c.args.node.now c.in_ok-table.ensures

pub returns : goal.returns
returns c =
    let a = c.args in
    let p = start_starts a.table.now a.node.now c.in_ok-table.ensures a.time c.in_ok-started.ensures in
    record { answer = p.0; node_after = c.put_node.ensures ∙ p.1 }
