-- Any two numbers that the contract admits coincide.
use mathlib.Core.Path.{◌≡◌, sym, ◌∙◌}
use Prim.Native.Nat.{ℕ}
use Rattle.refusal.specs.declared.Refusal.{Refusal}
use Rattle.refusal.specs.Refusal.{number_of}

pub number_settled : (a : Refusal) {r s : ℕ} → r ≡ number_of a → s ≡ number_of a → r ≡ s
number_settled a e d = e ∙ sym d
