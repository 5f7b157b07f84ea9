-- `insertion::all_put` meets its contract. The invariant: the array holds what it held at entry with the first i releases put in.
use mathlib.Core.Path.{◌≡◌}
use lib.ListN.{take}
use Rattle.laws.specs.Lists.{pad}
use Rattle.round.specs.Round.{releases_of}
use Rattle.release.specs.Insertion.{put_all}
use Rattle.release.proofs.insertion.all_put.Given as goal

abbrev pub invariant-loop-i : goal.invariant-loop-i
invariant-loop-i l = l.next ≡ pad 256 0 (put_all l.past (take l.count l.fn.tasks) (take l.i (releases_of l.fn.q)))
