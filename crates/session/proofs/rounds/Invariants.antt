-- The rounds, turn by turn: the record stays one that the program gave back.
use Rattle.common.specs.Common.{Given}
use Rattle.session.proofs.rounds.Given as goal

abbrev pub invariant-loop : goal.invariant-loop
invariant-loop g l = Given l.t l.s.common
