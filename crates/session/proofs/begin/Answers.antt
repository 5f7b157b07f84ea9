-- The table and the rounds: what is asked at each call.
use native.Mathlib.Omega.{arith}
use Rattle.std.specs.Prelude.{take}
use Rattle.intake.proofs.Settled.{table_checked}
use Rattle.session.proofs.Tables.{few}
use Rattle.session.proofs.begin.Goals as goal

pub rounds-requires : goal.rounds-requires
rounds-requires g c = table_checked (take c.args.w.to c.args.input.now) c.in-Ok.ensures

pub read_more-requires : goal.read_more-requires
read_more-requires g c =
    let w = c.args.w in
    let h = few c.args.input.now w.to (omega (arith, w.held.1, c.fits-input)) c.in-Err-BytesEnd.ensures c.in-Err-BytesEnd.field-0-is in
    (omega arith, w.held.1, omega (arith, h))
