-- `judge::judge_round` meets its contract: what the passes give is what the rules give. Assumes nothing.
use Rattle.laws.proofs.Lists.{length_of_map}
use Rattle.judge.proofs.Rounds.{few, judged_round}
use borrow.Author.Rules.{rules}
use Rattle.judge.proofs.judge_round.Goals as goal

pub judge_entries-all-requires : goal.judge_entries-all-requires
judge_entries-all-requires c = search (rules, few)

pub conclude-requires : goal.conclude-requires
conclude-requires c = search (rules, few)

pub returns : goal.returns
returns c =
    judged_round c.requires
    c.prepare-p.ensures
    (search (length_of_map, c.well_formed.1.1.0))
    c.judge_entries-all.ensures
    c.conclude.ensures
