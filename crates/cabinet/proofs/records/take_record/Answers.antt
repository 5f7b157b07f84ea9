-- Both lengths, then what the reader told, put over what was lent; a line for each way out.
use mathlib.Core.Path.{◌≡◌, ◌∙◌}
use Rattle.rules.specs.Answer.{refused}
use Rattle.refusal.proofs.Same.{passed_on}
use Rattle.cabinet.specs.Records.{read_record_door}
use Rattle.cabinet.proofs.Reading.{releases_unfit, entries_unfit, record_not_read, releases_fit, entries_fit, record_read, releases_put, entries_put}
use Rattle.cabinet.proofs.records.take_record.Goals.{then-releases-ne0-via-then-releases-ne0, then-releases-ne0-via-else-releases-ne0+then-entries-ne0}
use Rattle.cabinet.proofs.records.take_record.Goals as goal

pub returns-then-releases-ne0 : goal.returns-then-releases-ne0
returns-then-releases-ne0 c =
    let a = c.args in
    let e : read_record_door a.bytes.now a.releases.now a.entries.now ≡ refused 100 = elim c.then-releases-ne0.branch [
      | then-releases-ne0-via-then-releases-ne0 w ↦ releases_unfit a.bytes.now a.releases.now a.entries.now w.if-releases-ne0.true
      | then-releases-ne0-via-else-releases-ne0+then-entries-ne0 w ↦ entries_unfit a.bytes.now a.releases.now a.entries.now w.if-releases-ne0.false w.if-entries-ne0.true
    ] in
    record { answer = rw e; releases_after = rw e; entries_after = rw e }

pub returns-in_err-record : goal.returns-in_err-record
returns-in_err-record c =
    let a = c.args in
    let e = record_not_read a.bytes.now a.releases.now a.entries.now c.if-releases-ne0.false c.if-entries-ne0.false c.in_err-record.ensures in
    record { answer = rw e (passed_on _ _ c.from_residual.ensures.1); releases_after = rw e; entries_after = rw e }

pub put_releases-requires : goal.put_releases-requires
put_releases-requires c =
    let a = c.args in
    releases_fit a.bytes.now a.releases.now a.entries.now c.if-releases-ne0.false c.if-entries-ne0.false c.in_ok-record.ensures

pub put_entries-requires : goal.put_entries-requires
put_entries-requires c =
    let a = c.args in
    entries_fit a.bytes.now a.releases.now a.entries.now c.if-releases-ne0.false c.if-entries-ne0.false c.in_ok-record.ensures

pub returns : goal.returns
returns c =
    let a = c.args in
    let d = c.in_ok-record.ensures in
    record {
      answer = record_read a.bytes.now a.releases.now a.entries.now c.if-releases-ne0.false c.if-entries-ne0.false d;
      releases_after = c.put_releases.ensures ∙ releases_put a.bytes.now a.releases.now a.entries.now c.if-releases-ne0.false c.if-entries-ne0.false d;
      entries_after = c.put_entries.ensures ∙ entries_put a.bytes.now a.releases.now a.entries.now c.if-releases-ne0.false c.if-entries-ne0.false d;
    }
