-- A report: what is lent looked at, then the report; a lemma for each way out.
use mathlib.Core.Path.{◌∙◌}
use Rattle.refusal.proofs.Same.{passed_on}
use Rattle.node.specs.declared.Reported.{Reported}
use Rattle.states.specs.Node.{node_words}
use Rattle.cabinet.specs.Nodes.{words_of}
use Rattle.cabinet.proofs.Doing.{report_halts, report_is, reported_as}
use Rattle.cabinet.proofs.Replies.{retold, kept, put}
use Rattle.cabinet.proofs.Watching.{held_checked, held_given, held_long}
use Rattle.cabinet.proofs.nodes.report.Goals as goal

pub returns-in_err-table : goal.returns-in_err-table
returns-in_err-table c =
    let a = c.args in
    let e = report_halts a.table.now a.node.now c.in_err-table.ensures a.r in
    record { answer = passed_on _ _ c.from_residual.ensures.1 ∙ rw e; node_after = rw e }

pub report_node-requires : goal.report_node-requires
report_node-requires c =
    let a = c.args in
    record { checked = held_checked a.table.now a.node.now c.in_ok-table.ensures; given = held_given a.table.now a.node.now c.in_ok-table.ensures }

pub returns-in_err-reported : goal.returns-in_err-reported
returns-in_err-reported c =
    let a = c.args in
    let e = report_is a.table.now a.node.now c.in_ok-table.ensures a.r c.in_err-reported.ensures in
    record {
      answer = passed_on _ _ c.from_residual-in_err-reported.ensures.1 ∙ retold reported_as (λ (x : Reported). x.report) _ e;
      node_after = kept reported_as (λ k. words_of k.node) a.node.now _ e;
    }

pub put_node-requires : goal.put_node-requires
put_node-requires c = held_long c.args.table.now c.args.node.now c.in_ok-table.ensures

pub returns : goal.returns
returns c =
    let a = c.args in
    let e = report_is a.table.now a.node.now c.in_ok-table.ensures a.r c.in_ok-reported.ensures in
    record {
      answer = retold reported_as (λ (x : Reported). x.report) _ e;
      node_after = c.put_node.ensures ∙ put reported_as (λ (x : Reported). node_words x.node) a.node.now _ e;
    }
