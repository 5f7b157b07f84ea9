-- 256 bytes put in as words, one a turn.
use mathlib.Core.Path.{◌≡◌}
use lib.ListN.{take}
use Rattle.std.proofs.lemmas.List.Edits.{sets}
use Rattle.words.proofs.block.put_tasks.Given as goal

abbrev pub invariant-loop-i : goal.invariant-loop-i
invariant-loop-i l = l.words ≡ sets l.initial.words l.from (take l.i l.fn.tasks)
