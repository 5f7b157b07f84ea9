-- One turn: what is asked at each call, and the record that a closed round leaves.
use native.Mathlib.Omega.{arith}
use Rattle.session.proofs.Turns.{refused_asks, round_asks, next_given}
use Rattle.session.proofs.advance.Goals as goal

pub refused-requires : goal.refused-requires
refused-requires g c =
    refused_asks c.args.t c.args.s c.args.input.now c.requires.0 c.requires.1 (omega (arith, c.args.s.window.held.1, c.fits-input)) c.in-Err.ensures

pub say_round-requires : goal.say_round-requires
say_round-requires g c = round_asks c.args.t c.args.s c.args.input.now c.requires.0 c.requires.1 c.in-Ok.ensures

pub returns-in_ok-say_round-in-Ok : goal.returns-in_ok-say_round-in-Ok
returns-in_ok-say_round-in-Ok g c = next_given c.args.t c.args.s c.args.input.now c.requires.0 c.requires.1 c.in-Ok.ensures
