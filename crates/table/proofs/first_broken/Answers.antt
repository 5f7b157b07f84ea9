-- The loop of `first_broken`: the first of the tasks from i on that breaks a rule, and the largest C of them.
use Rattle.std.proofs.Common.{rules, tests}
use Rattle.table.proofs.first_broken.Invariants.{inv_end, inv_start, inv_kept, inv_broken}
use Rattle.table.proofs.first_broken.Goals as goal
use Rattle.table.proofs.first_broken.Goals.{then-not-keeps_rules, else-not-keeps_rules}

pub loop-i-init : goal.loop-i-init
loop-i-init c = search inv_start

pub loop-i-preserved : goal.loop-i-preserved
loop-i-preserved c =
    elim c.if-not-keeps_rules.branch [ then-not-keeps_rules w ↦ search (rules, tests, inv_broken) | else-not-keeps_rules w ↦ search (rules, tests, inv_kept) ]

pub returns : goal.returns
returns c = search inv_end
