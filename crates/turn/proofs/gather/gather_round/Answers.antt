-- The round line, behind the lines that are gathered.
use borrow.Author.Rules.{rules}
use Rattle.turn.proofs.Gathering.{gathered, round_front}
use Rattle.turn.proofs.gather.gather_round.Goals as goal

pub returns : goal.returns
returns c =
    let p = gathered (round_front c.args.x c.args.nodes c.requires.1 c.round_line-n.ensures) (search rules) c.put_front.ensures in
    record { put_within = p.0; line_after = p.1 }
