-- What follows from the contract of a close alone: the reply is one, and the record after a round is again one that was given back.
use mathlib.Core.Path.{◌≡◌, refl, sym, subst}
use Prim.Native.Nat.{ℕ}
use native.Mathlib.Omega.{arith}
use Rattle.std.specs.Prelude.{Result}
use Rattle.rules.specs.Answer.{Answer, done, refused, refused_by}
use Rattle.rules.specs.Close.{Closed, close}
use Rattle.rules.proofs.Closing.{close_keeps}
use Rattle.refusal.specs.declared.Refusal.{Refusal}
use Rattle.refusal.specs.Refusal.{answer_of}
use Rattle.refusal.proofs.Same.{settled}
use Rattle.table.specs.declared.Table.{Table}
use Rattle.table.specs.Table.{table_of, Checked}
use Rattle.table.proofs.Facts.{checked_fit}
use Rattle.round.specs.declared.Round.{Round}
use Rattle.round.specs.Round.{round_of}
use Rattle.common.specs.declared.Common.{Common}
use Rattle.common.specs.Common.{common_of, Given}
use Rattle.common.proofs.Records.{given}
use Rattle.close.specs.declared.Closing.{Closing}
use Rattle.close.specs.Close.{closed_as, closing}

module _ (t : Table) (c : Common) (q : Round) where
  pub close_round_settled : {r s : Result Closing Refusal} → answer_of r ≡ closing (close (table_of t) (common_of c) (round_of q))
      → answer_of s ≡ closing (close (table_of t) (common_of c) (round_of q)) → r ≡ s
  close_round_settled p e = settled p e

  kept_given : Checked t → Given t c → (a : Answer Closed) → close (table_of t) (common_of c) (round_of q) ≡ a → {k : Closing} → done k ≡ closing a → Given t k.common
  kept_given p g (done x) e {k} d =
      let same : k ≡ closed_as x = cc in
      subst (λ (k : Closing). Given t k.common) (sym same) (given (close_keeps (round_of q) (checked_fit p) g.sound e).sound)
  kept_given p g (refused n) e d = let z : ◌≡◌ {A = ℕ} 0 1 = cc in absurd (omega arith)
  kept_given p g (refused_by n i) e d = let z : ◌≡◌ {A = ℕ} 0 1 = cc in absurd (omega arith)

  pub reply_given : Checked t → Given t c → {k : Closing} → done k ≡ closing (close (table_of t) (common_of c) (round_of q)) → Given t k.common
  reply_given p g d = kept_given p g (close (table_of t) (common_of c) (round_of q)) refl d
