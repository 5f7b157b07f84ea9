-- The loop of `walk_on`: the first k ends stand in their places, the sum so far is the next, and no place from `from` on and below k breaks the bound.
use mathlib.Core.Path.{refl}
use borrow.Author.Rules.{rules}
use Rattle.laws.specs.Lists.{pad}
use Rattle.walk.proofs.walk_on.Invariants.{inv_end, inv_fits, inv_found, inv_next, inv_start}
use Rattle.walk.proofs.walk_on.Goals as goal

pub loop-k-init : goal.loop-k-init
unfolding pad
loop-k-init c = inv_start _ _ _ _ _ _ _ c.requires.summable c.requires.from_le_kept.0 refl

pub overflow_add-end : goal.overflow_add-end
overflow_add-end c = search (rules, inv_fits)

pub returns-then-breaks : goal.returns-then-breaks
returns-then-breaks c = search inv_found

pub loop-k-preserved : goal.loop-k-preserved
loop-k-preserved c = search inv_next

pub returns : goal.returns
returns c = search inv_end
