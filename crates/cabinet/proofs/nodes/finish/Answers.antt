-- A finish: what is lent looked at, then the finish; a lemma for each way out.
use mathlib.Core.Path.{◌∙◌}
use Rattle.refusal.proofs.Same.{passed_on}
use Rattle.node.specs.Node.{node_as}
use Rattle.states.specs.Node.{node_words}
use Rattle.cabinet.proofs.Doing.{held_ours, finish_halts, finish_refused, finish_done, finished}
use Rattle.cabinet.proofs.Replies.{put}
use Rattle.cabinet.proofs.Watching.{held_long}
use Rattle.cabinet.proofs.nodes.finish.Goals as goal

pub returns-in_err-held : goal.returns-in_err-held
returns-in_err-held c =
    let a = c.args in
    let e = finish_halts a.table.now a.node.now c.in_err-held.ensures a.time in
    record { answer = passed_on _ _ c.from_residual.ensures.1 ∙ rw e; node_after = rw e }

pub finish_node-requires : goal.finish_node-requires
finish_node-requires c = held_ours c.args.table.now c.args.node.now c.in_ok-held.ensures

pub returns-in_err-finished : goal.returns-in_err-finished
returns-in_err-finished c =
    let a = c.args in
    let e = finish_refused a.table.now a.node.now c.in_ok-held.ensures a.time c.in_err-finished.ensures in
    record { answer = passed_on _ _ c.from_residual-in_err-finished.ensures.1 ∙ rw e; node_after = rw e }

pub put_node-requires : goal.put_node-requires
put_node-requires c = held_long c.args.table.now c.args.node.now c.in_ok-held.ensures

pub returns : goal.returns
returns c =
    let a = c.args in
    let e = finish_done a.table.now a.node.now c.in_ok-held.ensures a.time c.in_ok-finished.ensures in
    record { answer = finished _ e; node_after = c.put_node.ensures ∙ put node_as node_words a.node.now _ e }
