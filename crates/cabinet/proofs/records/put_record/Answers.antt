-- The lists looked at, then what the writer told and left.
use mathlib.Core.Path.{◌∙◌}
use Rattle.refusal.proofs.Same.{passed_on}
use Rattle.cabinet.proofs.Bytes.{record_not_listed, record_wrote}
use Rattle.cabinet.proofs.records.put_record.Goals as goal

pub returns-in_err-record : goal.returns-in_err-record
returns-in_err-record c =
    let a = c.args in
    let p = record_not_listed a.bytes.now a.r a.releases.now a.entries.now c.in_err-record.ensures in
    record { answer = passed_on _ _ c.from_residual.ensures.1 ∙ p.0; bytes_after = p.1 }

pub returns : goal.returns
returns c =
    let a = c.args in
    let p = record_wrote a.bytes.now a.r a.releases.now a.entries.now c.in_ok-record.ensures c.write_record.ensures.value c.write_record.ensures.bytes_after in
    record { answer = p.0; bytes_after = p.1 }
