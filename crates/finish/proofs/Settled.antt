-- Any two replies that a contract admits coincide, and so do the nodes that are left behind in the caller's memory.
use mathlib.Core.Path.{◌≡◌, sym, ◌∙◌}
use Prim.Native.Nat.{ℕ}
use Rattle.std.specs.Prelude.{Result}
use Rattle.rules.specs.Node as rules
use Rattle.refusal.specs.declared.Refusal.{Refusal}
use Rattle.refusal.specs.Refusal.{answer_of}
use Rattle.refusal.proofs.Same.{settled}
use Rattle.node.specs.declared.Node.{Node}
use Rattle.node.specs.Node.{node_of}
use Rattle.finish.specs.declared.Finished.{Finished}
use Rattle.finish.specs.Finish.{numbers_of, accepted, left}

pub finish_step_settled : (n : Node) (time : ℕ) {r s : Result Finished Refusal} → answer_of r ≡ numbers_of (rules.finish (node_of n) time)
    → answer_of s ≡ numbers_of (rules.finish (node_of n) time) → r ≡ s
finish_step_settled n time e d = settled e d

module _ (n : Node) (time : ℕ) where
  -- what the contract says of a reply and of the lent node at exit
  abbrev Admitted : Result (Unit {0}) Refusal → Node → Type 0
  Admitted r m = (answer_of r ≡ accepted (rules.finish (node_of n) time)) × (m ≡ left n (rules.finish (node_of n) time))

  pub finish_settled : {r s : Result (Unit {0}) Refusal} {m l : Node} → Admitted r m → Admitted s l → (r ≡ s) × (m ≡ l)
  finish_settled e d = (settled e.0 d.0, e.1 ∙ sym d.1)
