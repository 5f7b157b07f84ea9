-- The first ones of a list in the places of an array: a loop that goes as far as the list and the places do.
use mathlib.Core.Path.{◌≡◌, refl, sym, ap, ◌∙◌}
use mathlib.Core.Logic.{◌⊎◌, inl, inr}
use mathlib.Core.List.{List, ◌∷◌, map}
use Prim.Native.Nat.{ℕ, zero, suc, ◌+◌, ◌-◌, ◌≤◌, ◌<◌, min}
use native.Mathlib.Omega.{arith}
use lib.ListN.{length, take, set, replicate}
use lib.Seq.{take_all}
use Rattle.std.proofs.lemmas.List.{map-id}
use Rattle.laws.specs.Lists.{rows, pad}
use Rattle.laws.proofs.Tests.{lt_or_ge}
use Rattle.laws.proofs.Lists.{length_rows, rows_at, map_take}
use Rattle.laws.proofs.Folds.{Filled, fill_next, fill_end}

-- no more are taken than there are
take_min : {A : Type 0} (k : ℕ) (l : List A) → take (min k (length l)) l ≡ take k l
take_min k l = by (lt_or_ge k (length l))
  where
    by : (k < length l) ⊎ (length l ≤ k) → take (min k (length l)) l ≡ take k l
    by (inl h) =
        let e : min k (length l) ≡ k = omega arith in
        rw e
    by (inr h) =
        let e : min k (length l) ≡ length l = omega arith in
        rw e (take_all (length l) l (omega arith) ∙ sym (take_all k l h))

pub record Placed {A : Type 0} (room : ℕ) (blank : A) (f : ℕ → A) (m count : ℕ) (list : List A) (i : ℕ) : Type 0 where
  pub most : count ≡ min room m
  pub filled : Filled (λ x. x) room blank (rows f m) count i list

module _ {A : Type 0} (room : ℕ) (blank : A) (f : ℕ → A) where
  pub placed_none : {m count : ℕ} → count ≡ min room m → Placed room blank f m count (replicate room blank) 0
  unfolding pad
  placed_none {m} {count} e =
      let z : room - 0 ≡ room = omega arith in
      record { most = e; filled = record { few = omega arith; inside = rw length_rows (omega arith); to = omega arith; is = rw z } }

  module _ {m count : ℕ} {list : List A} {i : ℕ} (v : Placed room blank f m count list i) where
    pub placed_next : i < count → {x : A} → x ≡ f i → Placed room blank f m count (set list i x) (i + 1)
    placed_next h e = record { most = v.most; filled = fill_next (λ x. x) room blank v.filled (f 0) h (e ∙ sym (rows_at f m i (f 0) (omega (arith, v.most)))) }

    pub placed_all : count ≤ i → list ≡ pad room blank (take room (rows f m))
    placed_all h =
        let e : count ≡ min room (length (rows f m)) = rw length_rows v.most in
        fill_end (λ x. x) room blank v.filled h
        ∙ ap (pad room blank) (map-id (take count (rows f m)) ∙ ap (λ n. take n (rows f m)) e ∙ take_min room (rows f m))

-- a list that is read in the form that code has, and one that is read as the rules have it
map_rows : {A B : Type 0} (form : A → B) (f : ℕ → A) (n : ℕ) → map form (rows f n) ≡ rows (λ i. form (f i)) n
unfolding rows
map_rows form f zero = refl
map_rows form f (suc n) = ap (λ l. form (f 0) ∷ l) (map_rows form (λ i. f (suc i)) n)

pub formed : {A B : Type 0} (form : A → B) (room : ℕ) (blank : B) (f : ℕ → A) (n : ℕ)
    → pad room blank (take room (rows (λ i. form (f i)) n)) ≡ pad room blank (map form (take room (rows f n)))
formed form room blank f n = ap (pad room blank) (ap (take room) (sym (map_rows form f n)) ∙ sym (map_take form room (rows f n)))
