-- The table looked at, the length, then the node made; a line for each way out.
use mathlib.Core.Path.{ap, ◌∙◌}
use Rattle.refusal.proofs.Same.{passed_on}
use Rattle.node.specs.declared.Node.{Node}
use Rattle.states.specs.Node.{node_words}
use Rattle.cabinet.proofs.Beginning.{node_stopped, node_unfit, node_refused, node_made}
use Rattle.cabinet.proofs.fresh.put_fresh_node.Goals as goal

pub returns-in_err-table : goal.returns-in_err-table
returns-in_err-table c =
    let a = c.args in
    let e = node_stopped a.table.now a.node.now a.number c.in_err-table.ensures in
    record { answer = rw e (passed_on _ _ c.from_residual.ensures.1); node_after = rw e }

pub returns-then-node-ne336 : goal.returns-then-node-ne336
returns-then-node-ne336 c =
    let a = c.args in
    let e = node_unfit a.table.now a.node.now a.number c.in_ok-table.ensures c.if-node-ne336.true in
    record { answer = rw e; node_after = rw e }

pub returns-in_err-first : goal.returns-in_err-first
returns-in_err-first c =
    let a = c.args in
    let e = node_refused a.table.now a.node.now a.number c.in_ok-table.ensures c.if-node-ne336.false c.in_err-first.ensures in
    record { answer = rw e (passed_on _ _ c.from_residual-in_err-first.ensures.1); node_after = rw e }

pub returns : goal.returns
returns c =
    let a = c.args in
    let m = node_made a.table.now a.node.now a.number c.in_ok-table.ensures c.if-node-ne336.false c.in_ok-first.ensures in
    record { answer = rw m.1; node_after = rw m.1 (c.put_node.ensures ∙ ap (λ (n : Node). node_words n) m.2) }
