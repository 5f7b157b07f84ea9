-- The window's own fact, which a loop's variable has no more: `l.w.0` is where its bytes begin, `l.w.1.0` where they end.
use Rattle.std.proofs.Common.{◌≤◌}
use Rattle.session.proofs.run.Given as goal

abbrev pub invariant-loop : goal.invariant-loop
invariant-loop g l = (l.w.0 ≤ l.w.1.0) × (l.w.1.0 ≤ 65536)
