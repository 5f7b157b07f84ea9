-- A list, turn by turn: the elements so far stand in the first places.
use mathlib.Core.Path.{sym, ap, ◌∙◌}
use Rattle.std.specs.Prelude.{◌≤◌, length}
use native.Mathlib.Omega.{arith}
use Rattle.laws.specs.Lists.{over}
use Rattle.refusal.proofs.Same.{passed_on}
use Rattle.refusal.proofs.Answers.{done_same, done_refused}
use Rattle.number.proofs.Told.{place_at}
use Rattle.reader.proofs.Counts.{count_done, count_few}
use Rattle.reader.proofs.Listing.{so_far, one_more, one_bad, all_read, all_many}
use Rattle.reader.proofs.read_list.Goals as goal

pub loop-i-init : goal.loop-i-init
loop-i-init g c =
    let a = c.args in
    let p = c.in_ok-count.ensures in
    so_far _ _ _ _ _ (count_few (length a.list.now) a.room a.bytes.now a.from p) (count_done (length a.list.now) a.room a.bytes.now a.from p).on

pub loop-i-preserved : goal.loop-i-preserved
loop-i-preserved g c = one_more g.met.T.Element.takes c.loop-i.invariant c.loop-i-test.true c.in_ok-x.ensures

pub returns-in_err-x : goal.returns-in_err-x
returns-in_err-x g c =
    let a = c.args in
    let d = count_done (length a.list.now) a.room a.bytes.now a.from c.in_ok-count.ensures in
    let b = one_bad g.met.T.Element.takes c.loop-i.invariant c.loop-i-test.true c.in_err-x.ensures in
    record {
      answer = passed_on _ _ c.from_residual-in_err-x.ensures.1 ∙ rw (d.is, b);
      list_after = λ x e. absurd (done_refused (sym (rw (d.is, b) at e)));
    }

pub returns : goal.returns
returns g c =
    let a = c.args in
    let v = c.loop-i.invariant in
    let e : c.in_ok-count.count ≤ c.loop-i.i = omega arith in
    let d = count_done (length a.list.now) a.room a.bytes.now a.from c.in_ok-count.ensures in
    let r = all_read g.met.T.Element.takes v e in
    let m = all_many g.met.T.Element.takes v e in
    record {
      answer = rw (d.is, r, m, place_at a.bytes.now c.loop-i.at v.reading.on);
      list_after = λ x h. v.holds ∙ ap (λ z. over z.value a.list.now) (done_same (rw (d.is, r) at h));
    }
