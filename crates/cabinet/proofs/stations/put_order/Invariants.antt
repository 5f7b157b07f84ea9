-- The tasks copied in, one a turn.
use mathlib.Core.Path.{◌≡◌}
use lib.ListN.{take}
use Rattle.laws.specs.Lists.{over}
use Rattle.cabinet.proofs.stations.put_order.Given as goal

abbrev pub invariant-loop-i : goal.invariant-loop-i
invariant-loop-i l = l.order ≡ over (take l.i l.tasks) l.initial.order
