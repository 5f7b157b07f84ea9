-- What an accepted call passed: a ladder of refusals is undone a rung at a time.
use mathlib.Core.Path.{◌≡◌, refl}
use mathlib.Core.Bool.{Bool, true, false}
use mathlib.Core.Option.{Option, none, some}
use Prim.Native.Nat.{ℕ}
use native.Mathlib.Omega.{arith}
use Rattle.laws.specs.Tests.{found}
use Rattle.rules.specs.Answer.{Answer, done, refused, refused_by, refuse◌if◌else◌, refuse◌naming◌else◌, ◌>>=◌}

pub refused≢done : {A B : Type 0} {n : ℕ} {a : A} → refused n ≡ done a → B
refused≢done h = let z : ◌≡◌ {A = ℕ} 0 1 = cc in absurd (omega arith)

pub refused_by≢done : {A B : Type 0} {n i : ℕ} {a : A} → refused_by n i ≡ done a → B
refused_by≢done h = let z : ◌≡◌ {A = ℕ} 0 1 = cc in absurd (omega arith)

pub same_done : {A : Type 0} {a b : A} → done a ≡ done b → a ≡ b
same_done h = cc

pub passed : {A : Type 0} (n : ℕ) (b : Bool) {rest : Answer A} {a : A} → (refuse n if b else rest) ≡ done a → (b ≡ false) × (rest ≡ done a)
passed n true h = refused≢done h
passed n false h = (refl, h)

pub passed_naming : {A : Type 0} (n : ℕ) (o : Option ℕ) {rest : Answer A} {a : A} → (refuse n naming o else rest) ≡ done a → (found o ≡ false) × (rest ≡ done a)
passed_naming n (some i) h = refused_by≢done h
passed_naming n none h = (refl, h)

-- what was done with an answer was done with what was asked for
pub passed_on : {A B : Type 0} (x : Answer A) (f : A → Answer B) {b : B} → (x >>= f) ≡ done b → (a : A) × (x ≡ done a) × (f a ≡ done b)
passed_on (done a) f h = (a, refl, h)
passed_on (refused n) f h = refused≢done h
passed_on (refused_by n i) f h = refused_by≢done h
