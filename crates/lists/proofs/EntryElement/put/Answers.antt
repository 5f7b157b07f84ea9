-- The four words of an entry, written at once.
use Rattle.std.proofs.Common.{rules, arith, ◌≡◌, ◌+◌, ◌-◌, sym, ◌∙◌}
use Rattle.round.specs.Round.{entry_of}
use Rattle.lists.specs.Lists.{words_of_entry}
use Rattle.lists.proofs.Putting.{part_put, four_each}
use Rattle.lists.proofs.EntryElement.put.Goals.{in-None, in-Some}
use Rattle.lists.proofs.EntryElement.put.Goals as goal

pub returns : goal.returns
returns c =
    let a = c.args in
    let n : a.at + 4 - a.at ≡ 4 = omega arith in
    let put : c.match-self.put ≡ words_of_entry (entry_of a.self) = elim c.match-self.branch [ in-None w ↦ search rules | in-Some w ↦ search rules ] in
    part_put a.words.now (words_of_entry (entry_of a.self)) c.copy_from_slice.new.self a.at _ (omega (arith, c.requires)) (n ∙ sym (four_each (entry_of a.self))) (c.copy_from_slice.ensures.after ∙ put)
