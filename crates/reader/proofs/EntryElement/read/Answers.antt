-- An entry: its mark, and a report behind a mark of 1.
use mathlib.Core.Path.{sym, ◌∙◌}
use Rattle.std.specs.Prelude.{drop}
use Rattle.rules.specs.Written.{read_entry}
use Rattle.round.specs.Round.{entry_as}
use Rattle.number.proofs.One.{is_done}
use Rattle.reader.proofs.Places.{formed_placed}
use Rattle.reader.proofs.EntryElement.read.Goals as goal

pub returns-in-1 : goal.returns-in-1
returns-in-1 c =
    let a = c.args in
    c.read_report.ensures
    ∙ sym (formed_placed entry_as a.bytes.now (read_entry (drop a.from a.bytes.now)) ∙ rw (is_done a.bytes.now a.from c.in_ok-mark.ensures, c.in-1.is))
