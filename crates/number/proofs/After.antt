-- Readings one behind the other: what follows may be changed for its equal, and grouped.
use mathlib.Core.Path.{◌≡◌, refl}
use mathlib.Core.List.{List}
use Prim.Native.Nat.{ℕ}
use Rattle.rules.specs.Answer.{Answer, done, refused, refused_by}
use Rattle.rules.specs.Numbers.{Read, Reads, after}

pub after_same : {A B : Type 0} (a : Answer (Read A)) {f g : A → Reads B} → ((x : A) (s : List ℕ) → f x s ≡ g x s) → after a f ≡ after a g
after_same (done x) e = e x.value x.rest
after_same (refused n) e = refl
after_same (refused_by n i) e = refl

pub after_after : {A B C : Type 0} (a : Answer (Read A)) (f : A → Reads B) (g : B → Reads C) → after (after a f) g ≡ after a (λ x s. after (f x s) g)
after_after (done x) f g = refl
after_after (refused n) f g = refl
after_after (refused_by n i) f g = refl
