-- Any two replies that a contract admits coincide, and so do any two contents of the words that were lent.
use Rattle.std.specs.Prelude.{Result}
use mathlib.Core.Path.{◌≡◌, sym, ◌∙◌}
use mathlib.Core.List.{List}
use Prim.Native.Nat.{ℕ}
use lib.Seq.{sets}
use Rattle.refusal.specs.declared.Refusal.{Refusal}
use Rattle.refusal.specs.Refusal.{answer_of}
use Rattle.refusal.proofs.Same.{settled}
use Rattle.table.specs.declared.Table.{Table}
use Rattle.common.specs.declared.Common.{Common}
use Rattle.node.specs.declared.Node.{Node}
use Rattle.states.specs.Common.{common_words, common_at}
use Rattle.states.specs.Node.{node_words, node_at}

pub common_in_settled : (t : Table) (words : List ℕ) {r s : Result Common Refusal} → answer_of r ≡ common_at t words → answer_of s ≡ common_at t words → r ≡ s
common_in_settled t words e d = settled e d

pub put_common_settled : (words : List ℕ) (from : ℕ) (c : Common) {r s : List ℕ} → r ≡ sets words from (common_words c) → s ≡ sets words from (common_words c) → r ≡ s
put_common_settled words from c e d = e ∙ sym d

pub node_in_settled : (t : Table) (words : List ℕ) {r s : Result Node Refusal} → answer_of r ≡ node_at t words → answer_of s ≡ node_at t words → r ≡ s
node_in_settled t words e d = settled e d

pub put_node_settled : (n : Node) {r s : List ℕ} → r ≡ node_words n → s ≡ node_words n → r ≡ s
put_node_settled n e d = e ∙ sym d
