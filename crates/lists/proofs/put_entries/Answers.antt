-- The entries, each in its four words.
use Rattle.std.proofs.Common.{rules, ap, ◌∙◌}
use Rattle.laws.specs.Lists.{over}
use Rattle.round.specs.Round.{entry_of, no_entry}
use Rattle.lists.specs.Lists.{words_of_entry}
use Rattle.lists.proofs.Putting.{joined_first}
use Rattle.lists.proofs.put_entries.Goals as goal

pub returns : goal.returns
returns c =
    let a = c.args in
    c.put_list.ensures ∙ ap (λ ws. over ws a.words.now) (joined_first words_of_entry entry_of no_entry a.q.entries a.q.entered (search rules))
