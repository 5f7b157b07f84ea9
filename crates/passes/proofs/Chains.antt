-- What a chain over the entries gives, from the first one on, is what the rules' steps give from the last one down.
--     max_each, max_kept, min_kept      the largest and the least, over all and over those that pass a test
--     fill_taken                        a loop that writes what each of the first n stands for into an array
use Rattle.std.specs.Prelude.{if◌then◌else◌}
use mathlib.Core.Path.{◌≡◌, refl, ap, ◌∙◌}
use mathlib.Core.Bool.{Bool, true, false}
use mathlib.Core.List.{List, [], ◌∷◌, map, foldr}
use Prim.Native.Nat.{ℕ, ◌+◌, ◌<◌, min, max}
use native.Mathlib.Omega.{arith}
use lib.ListN.{length, take, set, get_or, length-take}
use Rattle.std.specs.List.{fold, filter}
use Rattle.std.proofs.lemmas.List.{get_or-take}
use Rattle.laws.proofs.Folds.{Filled, fill_next, foldr_map}

-- an operation that may take its numbers in any order
module _ (op : ℕ → ℕ → ℕ) (swap : (a b c : ℕ) → op (op a b) c ≡ op (op a c) b) (comm : (a b : ℕ) → op a b ≡ op b a) where
  first_last : (a x : ℕ) (xs : List ℕ) → fold op (op a x) xs ≡ op x (fold op a xs)
  first_last a x [] = comm a x
  first_last a x (y ∷ xs) = ap (λ b. fold op b xs) (swap a x y) ∙ first_last (op a y) x xs

  from_last : (a : ℕ) (xs : List ℕ) → fold op a xs ≡ foldr op a xs
  from_last a [] = refl
  from_last a (x ∷ xs) = first_last a x xs ∙ ap (op x) (from_last a xs)

  module _ {A : Type 0} (part : A → ℕ) (a : ℕ) where
    -- over all
    each : (l : List A) → fold op a (map part l) ≡ foldr (λ x b. op (part x) b) a l
    each l = from_last a (map part l) ∙ foldr_map op part a l

    -- over those that pass a test
    module _ (test : A → Bool) where
      passed : (l : List A) → foldr op a (map part (filter test l)) ≡ foldr (λ x b. if test x then op (part x) b else b) a l
      passed [] = refl
      passed (x ∷ l) = by (test x) (passed l)
        where
          by : (t : Bool) {s : ℕ} → foldr op a (map part (filter test l)) ≡ s
              → foldr op a (map part (if t then x ∷ filter test l else filter test l)) ≡ (if t then op (part x) s else s)
          by true e = ap (op (part x)) e
          by false e = e

      kept : (l : List A) → fold op a (map part (filter test l)) ≡ foldr (λ x b. if test x then op (part x) b else b) a l
      kept l = from_last a (map part (filter test l)) ∙ passed l

module _ {A : Type 0} (part : A → ℕ) (a : ℕ) where
  pub max_each : (l : List A) → fold max a (map part l) ≡ foldr (λ x b. max (part x) b) a l
  max_each = each max (λ a b c. omega arith) (λ a b. omega arith) part a

  module _ (test : A → Bool) (l : List A) where
    pub max_kept : fold max a (map part (filter test l)) ≡ foldr (λ x b. if test x then max (part x) b else b) a l
    max_kept = kept max (λ a b c. omega arith) (λ a b. omega arith) part a test l

    pub min_kept : fold min a (map part (filter test l)) ≡ foldr (λ x b. if test x then min (part x) b else b) a l
    min_kept = kept min (λ a b c. omega arith) (λ a b. omega arith) part a test l

-- a loop over the first n of a list that writes what each stands for into an array
module _ {A B : Type 0} (f : A → B) (k : ℕ) (blank : B) {l : List A} {n i : ℕ} {out : List B} (v : Filled f k blank l n i out) where
  pub fill_taken : (d : A) → i < length (take n l) → {x : B} → x ≡ f (get_or (take n l) i d) → Filled f k blank l n (i + 1) (set out i x)
  fill_taken d h e =
      let p : i < n = omega (arith, length-take n l) in
      fill_next f k blank v d p (e ∙ ap f (get_or-take n l i d p))
