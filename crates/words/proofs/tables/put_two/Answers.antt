-- Two blocks stored one behind the other.
use mathlib.Core.Path.{◌≡◌, sym, ap, ◌∙◌}
use mathlib.Core.List.{List, ◌++◌}
use Prim.Native.Nat.{ℕ, ◌+◌}
use lib.ListN.{length}
use lib.Seq.{sets}
use Rattle.laws.proofs.Runs.{sets_append}
use borrow.Author.Rules.{rules}
use Rattle.words.proofs.tables.put_two.Goals as goal

both : (ws : List ℕ) (from : ℕ) (first second : List ℕ) {a b : List ℕ}
    → length first ≡ 64 → a ≡ sets ws from first → b ≡ sets a (from + 64) second → b ≡ sets ws from (first ++ second)
both ws from first second l p q =
    q ∙ ap (λ (r : List ℕ). sets r (from + 64) second) p ∙ sym (rw l at (sets_append ws from first second))

pub returns : goal.returns
returns c =
    both c.args.words.now c.args.from c.args.first c.args.second (search rules) c.put_block.ensures c.put_block-2.ensures
