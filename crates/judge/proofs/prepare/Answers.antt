-- `judge::prepare` meets its contract: the walk tells how far the bound is kept. Assumes nothing.
use Rattle.judge.proofs.Walking.{may_sum, slack_small, may_bound, from_within, clear_fits, prepared_is}
use Rattle.judge.proofs.Lent.{judgeable}
use borrow.Author.Rules.{rules}
use Rattle.judge.proofs.prepare.Goals as goal

pub walk_order-w-requires : goal.walk_order-w-requires
walk_order-w-requires c = record {
  summable = search (rules, may_sum);
  boundable = search (rules, may_bound, slack_small);
  from_le_kept = search (rules, from_within);
}

pub overflow_add-clear : goal.overflow_add-clear
overflow_add-clear c = search (rules, clear_fits, from_within)

pub invariant_of-before : goal.invariant_of-before
invariant_of-before c = search judgeable

pub returns : goal.returns
returns c = search prepared_is
