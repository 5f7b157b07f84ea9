-- A release: its task, and its delay behind it.
use mathlib.Core.Path.{◌∙◌}
use Rattle.refusal.proofs.Same.{passed_on}
use Rattle.number.proofs.One.{is_bad, is_done, is_on}
use Rattle.number.proofs.Told.{place_at}
use Rattle.reader.proofs.ReleaseElement.read.Goals as goal

pub returns-in_err-delay : goal.returns-in_err-delay
returns-in_err-delay c =
    passed_on _ _ c.from_residual-in_err-delay.ensures.1 ∙ rw (is_done _ _ c.in_ok-task.ensures, is_bad _ _ c.in_err-delay.ensures)

pub returns : goal.returns
returns c =
    let s = c.args.bytes.now in
    rw (is_done _ _ c.in_ok-task.ensures, is_done _ _ c.in_ok-delay.ensures, place_at s c.in_ok-delay.next (is_on s c.in_ok-task.middle c.in_ok-delay.ensures))
