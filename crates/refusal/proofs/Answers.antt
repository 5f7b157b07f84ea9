-- What two answers that are one say: the same value, or the same number, and never one of each.
use mathlib.Core.Path.{◌≡◌, ap}
use Prim.Native.Nat.{ℕ}
use native.Mathlib.Omega.{arith}
use Rattle.rules.specs.Answer.{Answer, done, refused, refused_by}

value_of : {A : Type 0} → A → Answer A → A
value_of x (done y) = y
value_of x (refused n) = x
value_of x (refused_by n i) = x

pub done_same : {A : Type 0} {x y : A} → done x ≡ done y → x ≡ y
unfolding value_of
done_same {x = x} e = ap (value_of x) e

pub done_refused : {A : Type 0} {x : A} {n : ℕ} → done x ≡ refused n → ⊥
done_refused e = let z : ◌≡◌ {A = ℕ} 0 1 = cc in omega arith

pub refused_same : {A : Type 0} {m n : ℕ} → ◌≡◌ {A = Answer A} (refused m) (refused n) → m ≡ n
refused_same e = cc
