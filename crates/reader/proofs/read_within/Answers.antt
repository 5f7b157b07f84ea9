-- A record, a line for each way out.
use mathlib.Core.Path.{sym, ap, ◌∙◌}
use Prim.Native.Nat.{◌-◌}
use Rattle.rules.specs.Answer.{done}
use Rattle.round.specs.declared.Round.{Round}
use Rattle.refusal.proofs.Same.{passed_on}
use Rattle.reader.proofs.Within.{releases_bad, releases_has, entries_bad, entries_has, no_time, no_releases, no_entries, forward, read_so}
use Rattle.reader.proofs.read_within.Goals as goal

pub returns-in_err-time : goal.returns-in_err-time
returns-in_err-time c =
    let a = c.args in
    passed_on _ _ c.from_residual.ensures.1 ∙ rw (no_time a.bytes.now a.from a.releases a.entries c.in_err-time.ensures)

pub returns-in_err-listed : goal.returns-in_err-listed
returns-in_err-listed c =
    let a = c.args in
    let e = releases_bad a.bytes.now c.in_ok-time.at a.releases c.blank-q.ensures c.in_err-listed.ensures.answer in
    passed_on _ _ c.from_residual-in_err-listed.ensures.1 ∙ rw (no_releases a.bytes.now a.from a.releases a.entries c.in_ok-time.ensures e)

pub returns-in_err-entered : goal.returns-in_err-entered
returns-in_err-entered c =
    let a = c.args in
    let l = c.in_ok-listed.ensures in
    let xs = releases_has a.bytes.now c.in_ok-time.at a.releases c.blank-q.ensures l.answer l.list_after in
    let e = entries_bad a.bytes.now c.in_ok-listed.middle a.entries c.blank-q.ensures c.in_err-entered.ensures.answer in
    passed_on _ _ c.from_residual-in_err-entered.ensures.1 ∙ rw (no_entries a.bytes.now a.from a.releases a.entries c.in_ok-time.ensures xs.was e)

pub overflow_sub-result : goal.overflow_sub-result
overflow_sub-result c =
    let a = c.args in
    let l = c.in_ok-listed.ensures in
    let n = c.in_ok-entered.ensures in
    let xs = releases_has a.bytes.now c.in_ok-time.at a.releases c.blank-q.ensures l.answer l.list_after in
    let es = entries_has a.bytes.now c.in_ok-listed.middle a.entries c.blank-q.ensures n.answer n.list_after in
    forward a.bytes.now a.from a.releases a.entries c.in_ok-time.ensures xs.was es.was

pub returns : goal.returns
returns c =
    let a = c.args in
    let l = c.in_ok-listed.ensures in
    let n = c.in_ok-entered.ensures in
    let xs = releases_has a.bytes.now c.in_ok-time.at a.releases c.blank-q.ensures l.answer l.list_after in
    let es = entries_has a.bytes.now c.in_ok-listed.middle a.entries c.blank-q.ensures n.answer n.list_after in
    ap (λ (q : Round). done (q, c.in_ok-entered.next - a.from)) (λ i. record {
      time = c.in_ok-time.time;
      listed = sym xs.many_is i;
      releases = xs.holds i;
      entered = sym es.many_is i;
      entries = es.holds i;
    })
    ∙ read_so a.bytes.now a.from a.releases a.entries c.in_ok-time.ensures xs.was es.was
