-- The elements of a list, stored one by one.
use Rattle.lists.proofs.Putting.{Put}
use Rattle.lists.proofs.put_list.Given as goal

abbrev pub invariant-loop-i : goal.invariant-loop-i
invariant-loop-i g l = Put g.T.Element.words_of g.T.Element.WORDS l.fn.list l.initial.words l.words l.i
