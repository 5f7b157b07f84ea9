-- The length, then all words written anew.
use Rattle.cabinet.proofs.Beginning.{common_unfit, common_fit, common_written}
use Rattle.cabinet.proofs.fresh.cabinet_fresh_common.Goals as goal

pub returns-then-common-ne326 : goal.returns-then-common-ne326
returns-then-common-ne326 c =
    let e = common_unfit c.args.common.now c.if-common-ne326.true in
    record { value = rw e c.refused.ensures; common_after = rw e }

pub returns : goal.returns
returns c =
    let l = c.if-common-ne326.false in
    let e = common_fit c.args.common.now l in
    record { value = rw e c.accepted.ensures; common_after = rw e (common_written c.args.common.now l c.fresh.ensures c.put_common.ensures) }
