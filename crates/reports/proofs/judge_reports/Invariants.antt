-- The loop of `judge_reports`: the reports walked so far are judged.
use Rattle.std.proofs.Common.{◌≡◌, take}
use Rattle.reports.proofs.SoFar.{so_far}
use Rattle.reports.proofs.judge_reports.Given as goal

abbrev pub invariant-loop-e : goal.invariant-loop-e
invariant-loop-e l = l.judging ≡ so_far l.basis (take l.e-index l.reports)
