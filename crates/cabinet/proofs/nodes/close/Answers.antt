-- A close: what is lent looked at, the lists looked at, then the close; a lemma for each way out.
use mathlib.Core.Path.{◌∙◌}
use Rattle.refusal.proofs.Same.{passed_on}
use Rattle.node.specs.declared.NodeClosing.{NodeClosing}
use Rattle.node.specs.Node.{closed_as}
use Rattle.states.specs.Node.{node_words}
use Rattle.cabinet.specs.Nodes.{words_of}
use Rattle.cabinet.proofs.Doing.{close_halts, close_unlisted, close_is}
use Rattle.cabinet.proofs.Replies.{kept, put}
use Rattle.cabinet.proofs.Watching.{held_checked, held_given, held_long}
use Rattle.cabinet.proofs.nodes.close.Goals as goal

pub returns-in_err-table : goal.returns-in_err-table
returns-in_err-table c =
    let a = c.args in
    let e = close_halts a.table.now a.node.now c.in_err-table.ensures a.r a.releases.now a.entries.now in
    record { answer = passed_on _ _ c.from_residual.ensures.1 ∙ rw e; node_after = rw e }

pub returns-in_err-record : goal.returns-in_err-record
returns-in_err-record c =
    let a = c.args in
    let e = close_unlisted a.table.now a.node.now c.in_ok-table.ensures a.r a.releases.now a.entries.now c.in_err-record.ensures in
    record { answer = passed_on _ _ c.from_residual-in_err-record.ensures.1 ∙ rw e; node_after = rw e }

pub close_node-requires : goal.close_node-requires
close_node-requires c =
    let a = c.args in
    record { checked = held_checked a.table.now a.node.now c.in_ok-table.ensures; given = held_given a.table.now a.node.now c.in_ok-table.ensures }

pub returns-in_err-closed : goal.returns-in_err-closed
returns-in_err-closed c =
    let a = c.args in
    let e = close_is a.table.now a.node.now c.in_ok-table.ensures a.r a.releases.now a.entries.now c.in_ok-record.ensures c.in_err-closed.ensures in
    record {
      answer = passed_on _ _ c.from_residual-in_err-closed.ensures.1 ∙ e;
      node_after = kept closed_as (λ k. words_of k.node) a.node.now _ e;
    }

pub put_node-requires : goal.put_node-requires
put_node-requires c = held_long c.args.table.now c.args.node.now c.in_ok-table.ensures

pub returns : goal.returns
returns c =
    let a = c.args in
    let e = close_is a.table.now a.node.now c.in_ok-table.ensures a.r a.releases.now a.entries.now c.in_ok-record.ensures c.in_ok-closed.ensures in
    record { answer = e; node_after = c.put_node.ensures ∙ put closed_as (λ (x : NodeClosing). node_words x.node) a.node.now _ e }
