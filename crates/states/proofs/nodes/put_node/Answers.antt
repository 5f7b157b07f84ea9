-- Five words, the round's five, and the common record's: one run over all the words.
use mathlib.Core.Path.{◌≡◌, sym, ap, ◌∙◌}
use mathlib.Core.List.{List, [], ◌∷◌, ◌++◌, append-nil}
use Prim.Native.Nat.{ℕ}
use native.Mathlib.Omega.{arith}
use lib.ListN.{length, drop, length-append, drop_of_length-le}
use lib.Seq.{sets}
use Rattle.words.proofs.Copies.{part_put}
use Rattle.laws.proofs.Runs.{sets_append, sets_front}
use Rattle.node.specs.declared.Node.{Node}
use Rattle.states.specs.Common.{mark, common_words}
use Rattle.states.specs.Node.{round_words, node_words}
use borrow.Author.Rules.{rules}
use Rattle.states.proofs.nodes.put_node.Goals as goal

module _ (ws : List ℕ) (n : Node) (long : length ws ≡ 336) (earliest : length n.common.earliest ≡ 64) (tasks : length n.common.tasks ≡ 256) where
  abbrev head : ℕ → List ℕ
  head running = n.number ∷ n.progress ∷ n.completed ∷ running ∷ n.latest ∷ []

  all_words : length (node_words n) ≡ 336
  unfolding node_words common_words
  all_words = simp length-append (omega arith)

  whole : sets ws 0 (node_words n) ≡ node_words n
  whole =
      sets_front (node_words n) ws (omega (arith, all_words))
      ∙ ap (λ (l : List ℕ). node_words n ++ l) (drop_of_length-le ws {i = length (node_words n)} (omega (arith, all_words)))
      ∙ append-nil (node_words n)

  all_put : {running : ℕ} → running ≡ mark n.running → {round : List ℕ} → round ≡ round_words n.round
      → {s₁ s₂ s₃ : List ℕ} → s₁ ≡ sets ws 0 (head running) → s₂ ≡ sets s₁ 5 round → s₃ ≡ sets s₂ 10 (common_words n.common) → s₃ ≡ node_words n
  unfolding node_words
  all_put m e {s₁} {s₂} p q r =
      let first : s₁ ≡ sets ws 0 (head (mark n.running)) = p ∙ ap (λ (b : ℕ). sets ws 0 (head b)) m in
      let second : s₂ ≡ sets s₁ 5 (round_words n.round) = q ∙ ap (sets s₁ 5) e in
      r
      ∙ sym (sets_append ws 0 (head (mark n.running)) (round_words n.round ++ common_words n.common)
      ∙ ap (λ (s : List ℕ). sets s 5 (round_words n.round ++ common_words n.common)) (sym first)
      ∙ sets_append s₁ 5 (round_words n.round) (common_words n.common)
      ∙ ap (λ (s : List ℕ). sets s 10 (common_words n.common)) (sym second))
      ∙ whole

pub returns : goal.returns
returns c =
    let n = c.args.n in
    let ws = c.args.words.now in
    let number : List ℕ = n.number ∷ n.progress ∷ n.completed ∷ c.from-running.result ∷ n.latest ∷ [] in
    let first : c.copy_from_slice.new.self ++ drop 5 ws ≡ sets ws 0 number =
    ap (λ (l : List ℕ). l ++ drop 5 ws) c.copy_from_slice.ensures.after ∙ sym (sets_front number ws (omega arith)) in
    let second = part_put _ _ c.copy_from_slice-2.new.self 5 5 (search rules) (search rules) c.copy_from_slice-2.ensures.after in
    all_put ws n c.requires (search rules) (search rules) (search rules) c.round_words.ensures first second c.put_common.ensures
