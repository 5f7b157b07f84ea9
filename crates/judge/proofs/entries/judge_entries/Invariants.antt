-- `entries::judge_entries` meets its contract. The invariant: the entries below `i` are judged. Assumes nothing.
use Rattle.laws.proofs.Folds.{Filled}
use Rattle.round.specs.Round.{entry_of}
use Rattle.passes.specs.Classed.{no_class}
use Rattle.judge.specs.Lent.{classed_at}
use Rattle.judge.proofs.entries.judge_entries.Given as goal

abbrev pub invariant-loop-i : goal.invariant-loop-i
invariant-loop-i l =
    Filled (λ e. classed_at l.ends l.b (entry_of e)) 15 no_class l.fn.entries l.n l.i l.all
