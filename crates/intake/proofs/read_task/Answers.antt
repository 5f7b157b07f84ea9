-- A task: four numbers.
use mathlib.Core.Path.{◌∙◌}
use Rattle.refusal.proofs.Same.{passed_on}
use Rattle.number.proofs.One.{is_bad, is_done, is_on}
use Rattle.number.proofs.Told.{place_at}
use Rattle.intake.proofs.read_task.Goals as goal

pub returns-in_err-distance : goal.returns-in_err-distance
returns-in_err-distance c =
    passed_on _ _ c.from_residual-in_err-distance.ensures.1 ∙ rw (is_done _ _ c.in_ok-longest.ensures, is_bad _ _ c.in_err-distance.ensures)

pub returns-in_err-deadline : goal.returns-in_err-deadline
returns-in_err-deadline c =
    passed_on _ _ c.from_residual-in_err-deadline.ensures.1
    ∙ rw (is_done _ _ c.in_ok-longest.ensures, is_done _ _ c.in_ok-distance.ensures, is_bad _ _ c.in_err-deadline.ensures)

pub returns-in_err-slack : goal.returns-in_err-slack
returns-in_err-slack c =
    passed_on _ _ c.from_residual-in_err-slack.ensures.1
    ∙ rw (
      is_done _ _ c.in_ok-longest.ensures,
      is_done _ _ c.in_ok-distance.ensures,
      is_done _ _ c.in_ok-deadline.ensures,
      is_bad _ _ c.in_err-slack.ensures,
    )

pub returns : goal.returns
returns c =
    let s = c.args.bytes.now in
    rw (
      is_done _ _ c.in_ok-longest.ensures,
      is_done _ _ c.in_ok-distance.ensures,
      is_done _ _ c.in_ok-deadline.ensures,
      is_done _ _ c.in_ok-slack.ensures,
      place_at s c.in_ok-slack.next (is_on s c.in_ok-deadline.fourth c.in_ok-slack.ensures),
    )
