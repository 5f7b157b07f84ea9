-- The record before the first round is the fresh one.
use Rattle.std.proofs.Common.{sym, subst}
use Rattle.common.specs.Common.{Given}
use Rattle.common.proofs.Records.{given_fresh}
use Rattle.session.proofs.rounds.Goals as goal

pub loop-init : goal.loop-init
loop-init g c = subst (Given c.args.t) (sym c.fresh.ensures) (given_fresh c.args.t)
