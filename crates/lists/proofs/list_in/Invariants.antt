-- The first elements, put into their places one by one.
use Rattle.std.proofs.Common.{◌/◌, length}
use Rattle.lists.proofs.Places.{Placed}
use Rattle.lists.proofs.list_in.Given as goal

abbrev pub invariant-loop-i : goal.invariant-loop-i
invariant-loop-i g l = Placed g.row.N l.fn.blank (g.T.Element.element_at l.words) (length l.words / g.T.Element.WORDS) l.i-end l.list l.i
