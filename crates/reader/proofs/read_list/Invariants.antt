-- So many elements read, and the rest of the list behind them.
use Rattle.reader.proofs.Listing.{SoFar}
use Rattle.reader.proofs.read_list.Given as goal

abbrev pub invariant-loop-i : goal.invariant-loop-i
invariant-loop-i g l = SoFar g.T.Element.reads l.bytes l.initial.at l.count l.initial.list l.list l.at l.i
