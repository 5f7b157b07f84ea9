-- `next_turn` meets its contract: a lemma for each way out.
use mathlib.Core.Path.{sym, ◌∙◌}
use Rattle.refusal.proofs.Same.{passed_on}
use Rattle.turn.proofs.Read.{unread, unclosed, all_closed}
use Rattle.turn.proofs.next_turn.Goals as goal

pub returns-in_err-q : goal.returns-in_err-q
returns-in_err-q c = passed_on _ _ c.from_residual.ensures.1 ∙ sym (unread _ _ _ c.in_err-q.ensures)

pub returns-in_err-common : goal.returns-in_err-common
returns-in_err-common c = passed_on _ _ c.from_residual-in_err-common.ensures.1 ∙ sym (unclosed _ _ _ c.in_ok-q.ensures c.in_err-common.ensures)

pub returns : goal.returns
returns c = all_closed _ _ _ c.in_ok-q.ensures c.in_ok-common.ensures
