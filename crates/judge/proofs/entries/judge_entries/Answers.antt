-- `entries::judge_entries` meets its contract. The invariant: the entries below `i` are judged. Assumes nothing.
use Rattle.passes.proofs.Chains.{fill_taken}
use Rattle.judge.proofs.entries.judge_entries.Goals as goal

pub loop-i-preserved : goal.loop-i-preserved
loop-i-preserved c = search fill_taken
