-- 256 bytes put in as words, one a turn.
use native.Mathlib.Omega.{arith}
use Rattle.std.proofs.Common.{rules, ◌≡◌, length}
use Rattle.words.proofs.Copies.{one_more}
use Rattle.words.proofs.block.put_tasks.Goals as goal

pub loop-i-preserved : goal.loop-i-preserved
loop-i-preserved c =
    let places : length c.args.tasks ≡ 256 = search rules in
    one_more c.args.words.now c.args.tasks c.args.from c.loop-i.i c.from.result c.loop-i.invariant (omega (arith, places, c.loop-i-test.true)) c.from.ensures
