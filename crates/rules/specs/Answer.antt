-- What a call answers: what it was asked for, or a refusal.
use Rattle.std.specs.Prelude.{Bool, true, false, ℕ}
use Rattle.std.proofs.Math.Option.{Option, none, some}

-- "A refusal gives its number and changes nothing": there is no state in it. Two of them, 2 and 9, name a task.
pub data Answer (A : Type 0) : Type 0 where
  done : A → Answer A
  refused : ℕ → Answer A
  refused_by : ℕ → ℕ → Answer A

-- "Order": the first refusal that fits is given.
infixr 10 refuse◌if◌else◌
abbrev pub refuse◌if◌else◌ : {A : Type 0} → ℕ → Bool → Answer A → Answer A
refuse n if true else rest = refused n
refuse n if false else rest = rest

-- The same, naming a task.
infixr 10 refuse◌naming◌else◌
abbrev pub refuse◌naming◌else◌ : {A : Type 0} → ℕ → Option ℕ → Answer A → Answer A
refuse n naming (some i) else rest = refused_by n i
refuse n naming none else rest = rest

-- What is done with what was answered; a refusal stays.
infixl 15 ◌>>=◌
abbrev pub ◌>>=◌ : {A B : Type 0} → Answer A → (A → Answer B) → Answer B
done a >>= f = f a
refused n >>= f = refused n
refused_by n i >>= f = refused_by n i
