-- The releases that are listed, each in its two words.
use Rattle.std.proofs.Common.{rules, ap, ◌∙◌}
use Rattle.laws.specs.Lists.{over}
use Rattle.round.specs.Round.{release_of, no_release}
use Rattle.lists.specs.Lists.{words_of_release}
use Rattle.lists.proofs.Putting.{joined_first}
use Rattle.lists.proofs.put_releases.Goals as goal

pub returns : goal.returns
returns c =
    let a = c.args in
    c.put_list.ensures ∙ ap (λ ws. over ws a.words.now) (joined_first words_of_release release_of no_release a.q.releases a.q.listed (search rules))
