-- The first elements, put into their places one by one.
use Rattle.std.proofs.Common.{rules}
use Rattle.lists.proofs.Places.{placed_none, placed_next, placed_all}
use Rattle.lists.proofs.list_in.Goals as goal

pub loop-i-init : goal.loop-i-init
loop-i-init g c = placed_none g.row.N c.args.blank _ (search rules)

pub loop-i-preserved : goal.loop-i-preserved
loop-i-preserved g c = placed_next g.row.N c.args.blank _ c.loop-i.invariant c.loop-i-test.true c.read.ensures

pub returns : goal.returns
returns g c = placed_all g.row.N c.args.blank _ c.loop-i.invariant c.loop-i-test.false
