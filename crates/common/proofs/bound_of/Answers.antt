-- The job stands at the place before the position's count; the rest is the test over the arrays.
use Rattle.common.proofs.Positions.{may_sum_there, may_test, bound_is}
use Rattle.common.proofs.bound_of.Goals as goal

pub projected-end-requires : goal.projected-end-requires
projected-end-requires c = search may_sum_there

pub breach_at-requires : goal.breach_at-requires
breach_at-requires c = search may_test

pub returns : goal.returns
returns c = search bound_is
