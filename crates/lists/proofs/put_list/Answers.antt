-- The elements of a list, stored one by one.
use Rattle.lists.proofs.Putting.{put_next, put_all}
use Rattle.lists.proofs.put_list.Goals as goal

pub loop-i-preserved : goal.loop-i-preserved
loop-i-preserved g c = put_next g.T.Element.words_of g.T.Element.WORDS g.met.T.Element.long c.loop-i.invariant c.index-list-i.result c.loop-i-test.true c.index-list-i.is (rw c.WORDS.ensures at c.put.ensures)

pub returns : goal.returns
returns g c = put_all g.T.Element.words_of g.T.Element.WORDS g.met.T.Element.long c.loop-i.invariant c.loop-i-test.false
