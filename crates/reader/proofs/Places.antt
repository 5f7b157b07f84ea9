-- What is read in another form is told in the same places.
use mathlib.Core.Path.{◌≡◌, refl}
use mathlib.Core.List.{List}
use Prim.Native.Nat.{ℕ}
use Rattle.rules.specs.Answer.{Answer, done, refused, refused_by}
use Rattle.rules.specs.Numbers.{Read}
use Rattle.number.specs.Numbers.{placed}
use Rattle.reader.specs.Formed.{formed}

pub formed_placed : {A B : Type 0} (form : A → B) (s : List ℕ) (a : Answer (Read A)) → placed (λ (y : B). y) s (formed form a) ≡ placed form s a
formed_placed form s (done x) = refl
formed_placed form s (refused n) = refl
formed_placed form s (refused_by n i) = refl
