-- Laws of lists whose elements all lie below a limit.
--     each_below, are_below        element by element
--     zeros, zeros_below           below 1 there is only 0
--     below_list_all, below_folded as the library's `all` tests it, and a fold over all of them
--     sum_total, small_sum         their sum, as the library makes it
use mathlib.Core.Path.{◌≡◌, refl, sym, ap, ◌∙◌}
use mathlib.Core.Bool.{Bool, true, ◌&&◌, and-true}
use mathlib.Core.List.{List, [], ◌∷◌}
use Prim.Native.Nat.{ℕ, zero, suc, ◌^◌, ◌≤◌, ◌<◌}
use native.Mathlib.Omega.{arith}
use borrow.Author.Tests.{ltb-true, lt-ltb}
use lib.ListN.{length, get_or, replicate, length-replicate, get_or-replicate}
use lib.Dec.{ltb}
use Rattle.std.proofs.Math.Bool.{and_assoc}
use Rattle.std.specs.List.{fold, sum, list_all, All}
use Rattle.std.proofs.lemmas.List.{get_or_default}
use Rattle.std.proofs.lemmas.List.Recursion.{is_sum_by}
use Rattle.std.proofs.lemmas.List.Sums.{sum_by-le}
use Rattle.laws.specs.Sums.{total}
use Rattle.laws.specs.Tests.{◌<?◌, all_of}
use Rattle.laws.proofs.Tests.{and_yes}
use Rattle.states.specs.Common.{all_below}

module _ (limit : ℕ) where
  below_none : all_below limit [] ≡ true
  unfolding all_below all_of
  below_none = refl

  below_more : (x : ℕ) (l : List ℕ) → x < limit → all_below limit (x ∷ l) ≡ all_below limit l
  unfolding all_below all_of
  below_more x l h = rw (lt-ltb x limit h)

  both : (x : ℕ) (l : List ℕ) → all_below limit (x ∷ l) ≡ true → (x < limit) × (all_below limit l ≡ true)
  unfolding all_below all_of
  both x l h = let a = and_yes (x <? limit) (all_below limit l) h in (ltb-true x limit a.0, a.1)

  pub each_below : (l : List ℕ) → all_below limit l ≡ true → (i : ℕ) → i < length l → get_or l i 0 < limit
  each_below [] h i k = absurd (omega arith)
  each_below (x ∷ l) h zero k = (both x l h).0
  each_below (x ∷ l) h (suc i) k = each_below l (both x l h).1 i (omega arith)

  pub are_below : (l : List ℕ) → ((i : ℕ) → i < length l → get_or l i 0 < limit) → all_below limit l ≡ true
  are_below [] f = below_none
  are_below (x ∷ l) f = below_more x l (f 0 (omega arith)) ∙ are_below l (λ i k. f (suc i) (omega arith))

pub zeros : (l : List ℕ) → all_below 1 l ≡ true → l ≡ replicate (length l) 0
zeros [] h = refl
zeros (x ∷ l) h =
    let a = both 1 x l h in
    let e : x ≡ 0 = omega (arith, a.0) in
    λ i. e i ∷ zeros l a.1 i

pub zeros_below : (n : ℕ) → all_below 1 (replicate n 0) ≡ true
zeros_below n =
    are_below 1 (replicate n 0) (λ i k. omega (arith, get_or-replicate {A = ℕ} n i 0 0 (omega (arith, length-replicate {A = ℕ} n 0))))

-- as the library's words say it
pub below_list_all : (limit : ℕ) (l : List ℕ) → list_all (λ x. ltb x limit) l ≡ all_below limit l
unfolding all_below all_of
below_list_all limit [] = refl
below_list_all limit (x ∷ l) = ap (λ (b : Bool). (x <? limit) && b) (below_list_all limit l)

pub below_folded : (limit : ℕ) (b : Bool) (l : List ℕ) → fold (λ a x. a && ltb x limit) b l ≡ b && all_below limit l
unfolding all_below all_of
below_folded limit b [] = sym (and-true b)
below_folded limit b (x ∷ l) = below_folded limit (b && (x <? limit)) l ∙ and_assoc b (x <? limit) (all_below limit l)

pub sum_total : (l : List ℕ) → sum l ≡ total l
unfolding total
sum_total l = sym (is_sum_by total (λ x. x) refl (λ x xs. refl) l)

-- 64 numbers below 2^49 have a sum of 64 bits
pub small_sum : (l : List ℕ) → length l ≡ 64 → all_below (2 ^ 49) l ≡ true → sum l < 2 ^ 64
small_sum l n h =
    let each : All (λ x. x ≤ 2 ^ 49) l = λ k d m. omega (arith, get_or_default l k d 0 m, each_below (2 ^ 49) l h k m) in
    omega (arith, n, sum_by-le (λ x. x) (2 ^ 49) l each)
