-- A report behind its mark: three numbers.
use mathlib.Core.Path.{◌∙◌}
use Rattle.refusal.proofs.Same.{passed_on}
use Rattle.number.proofs.One.{is_bad, is_done, is_on}
use Rattle.number.proofs.Told.{place_at}
use Rattle.reader.proofs.read_report.Goals as goal

pub returns-in_err-completed : goal.returns-in_err-completed
returns-in_err-completed c =
    passed_on _ _ c.from_residual-in_err-completed.ensures.1 ∙ rw (is_done _ _ c.in_ok-progress.ensures, is_bad _ _ c.in_err-completed.ensures)

pub returns-in_err-run : goal.returns-in_err-run
returns-in_err-run c =
    passed_on _ _ c.from_residual-in_err-run.ensures.1
    ∙ rw (is_done _ _ c.in_ok-progress.ensures, is_done _ _ c.in_ok-completed.ensures, is_bad _ _ c.in_err-run.ensures)

pub returns : goal.returns
returns c =
    let s = c.args.bytes.now in
    rw (
      is_done _ _ c.in_ok-progress.ensures,
      is_done _ _ c.in_ok-completed.ensures,
      is_done _ _ c.in_ok-run.ensures,
      place_at s c.in_ok-run.next (is_on s c.in_ok-completed.third c.in_ok-run.ensures),
    )
