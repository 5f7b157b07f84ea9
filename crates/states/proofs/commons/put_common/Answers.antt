-- The first six words, then E, then the tasks: one run.
use Rattle.std.specs.Prelude.{Option, Some, None, is_some, unwrap_or}
use mathlib.Core.Path.{◌≡◌, sym, ap, ap₂, ◌∙◌}
use mathlib.Core.List.{List, [], ◌∷◌, ◌++◌}
use Prim.Native.Nat.{ℕ, ◌+◌}
use native.Mathlib.Omega.{arith}
use lib.ListN.{length}
use lib.Seq.{sets}
use Rattle.words.proofs.Copies.{part_put}
use Rattle.laws.proofs.Runs.{sets_append}
use Rattle.laws.specs.Tests.{found}
use Rattle.common.specs.Common.{last_of}
use Rattle.common.specs.declared.Common.{Common}
use Rattle.states.specs.Common.{mark, common_words}
use borrow.Author.Rules.{rules}
use Rattle.states.proofs.commons.put_common.Goals as goal

begun_is : (o : Option ℕ) {b : ℕ} → b ≡ mark (is_some o) → b ≡ mark (found (last_of o))
begun_is None e = e
begun_is (Some l) e = e

module _ (ws : List ℕ) (from : ℕ) (c : Common) (places : length c.earliest ≡ 64) {begun : ℕ} (m : begun ≡ mark (found (last_of c.last))) {last : ℕ} (n : last ≡ unwrap_or c.last 0) where
  abbrev head : ℕ → ℕ → List ℕ
  head b l = c.base ∷ c.start ∷ c.offset ∷ c.count ∷ b ∷ l ∷ []

  all_put : {s₁ s₂ s₃ : List ℕ} → s₁ ≡ sets ws from (head begun last) → s₂ ≡ sets s₁ (from + 6) c.earliest → s₃ ≡ sets s₂ (from + 70) c.tasks
      → s₃ ≡ sets ws from (common_words c)
  unfolding common_words
  all_put {s₁} {s₂} p q r =
      let e : from + 6 + length c.earliest ≡ from + 70 = omega arith in
      let first : s₁ ≡ sets ws from (head (mark (found (last_of c.last))) (unwrap_or c.last 0)) = p ∙ ap₂ (λ (b l : ℕ). sets ws from (head b l)) m n in
      r ∙ sym (sets_append ws from (head (mark (found (last_of c.last))) (unwrap_or c.last 0)) (c.earliest ++ c.tasks)
      ∙ ap (λ (s : List ℕ). sets s (from + 6) (c.earliest ++ c.tasks)) (sym first)
      ∙ sets_append s₁ (from + 6) c.earliest c.tasks
      ∙ ap₂ (λ (s : List ℕ) (k : ℕ). sets s k c.tasks) (sym q) e)

pub returns : goal.returns
returns c =
    let first = part_put c.args.words.now _ c.copy_from_slice.new.self c.args.from _ (search rules) (search rules) c.copy_from_slice.ensures.after in
    all_put c.args.words.now c.args.from c.args.c (search rules) (search (rules, begun_is)) (search rules) first c.put_block.ensures c.put_tasks.ensures
