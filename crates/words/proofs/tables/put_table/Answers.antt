-- The words of a table, stored from the first on.
use mathlib.Core.Path.{◌≡◌}
use native.Mathlib.Omega.{arith}
use lib.ListN.{length, length-set}
use lib.Seq.{length-sets}
use Rattle.words.proofs.Table.{Whole, words_put}
use borrow.Author.Rules.{rules}
use Rattle.words.proofs.tables.put_table.Goals as goal

pub put_two-requires : goal.put_two-requires
put_two-requires c = simp length-set (omega (arith, c.requires))

pub put_two-requires-2 : goal.put_two-requires-2
put_two-requires-2 c = simp (c.put_two.ensures, length-sets, length-set) (omega (arith, c.requires))

pub shape_of-words : goal.shape_of-words
shape_of-words c =
    let first : length c.put_two.new.words ≡ length c.args.words.now = simp (c.put_two.ensures, length-sets, length-set) in
    simp (c.put_two-2.ensures, length-sets) first

pub returns : goal.returns
returns c =
    let whole : Whole c.args.t = record { longest = search rules; distance = search rules; deadline = search rules; slack = search rules } in
    rw (c.put_two-2.ensures, c.put_two.ensures) (words_put whole c.args.words.now c.requires)
