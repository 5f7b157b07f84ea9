-- A loop that writes the first numbers of a sequence into an array, and reading them there.
use mathlib.Core.Path.{◌≡◌, refl, ap, ◌∙◌}
use mathlib.Core.List.{List, [], ◌∷◌, ◌++◌}
use Prim.Native.Nat.{ℕ, zero, suc, ◌+◌, ◌<◌}
use native.Mathlib.Omega.{arith}
use native.Mathlib.Numerals.{add-one}
use lib.ListN.{length, set, get_or}
use Rattle.laws.specs.Lists.{rows, pad}
use Rattle.laws.proofs.Lists.{length_rows, rows_at, getD_pad, pad_snoc}

module _ {A : Type 0} where
  rows_suc : (f : ℕ → A) (n : ℕ) → rows f (suc n) ≡ rows f n ++ (f n ∷ [])
  unfolding rows
  rows_suc f zero = refl
  rows_suc f (suc n) = ap (λ (l : List A). f 0 ∷ l) (rows_suc (λ i. f (suc i)) n)

  pub rows_next : (f : ℕ → A) (n : ℕ) → rows f (n + 1) ≡ rows f n ++ (f n ∷ [])
  rows_next f n = rw (add-one n) (rows_suc f n)

  pub no_rows : (f : ℕ → A) (k : ℕ) (blank : A) {out : List A} → out ≡ pad k blank [] → out ≡ pad k blank (rows f 0)
  unfolding rows
  no_rows f k blank e = e

  -- one more is stored
  pub store_row : (f : ℕ → A) (k : ℕ) (blank : A) {out : List A} {i : ℕ} {x : A} → out ≡ pad k blank (rows f i) → i < k → x ≡ f i
      → set out i x ≡ pad k blank (rows f (i + 1))
  store_row f k blank {out} {i} {x} e h p =
      let l : length (rows f i) ≡ i = length_rows f i in
      let s : set (pad k blank (rows f i)) (length (rows f i)) x ≡ pad k blank (rows f i ++ (x ∷ [])) = pad_snoc k blank (rows f i) x (omega arith) in
      ap (λ (o : List A). set o i x) e
      ∙ rw l at s
      ∙ rw (rows_next f i, p)

  pub row_in : (f : ℕ → A) (k : ℕ) (blank : A) (n i : ℕ) (d : A) → i < n → get_or (pad k blank (rows f n)) i d ≡ f i
  row_in f k blank n i d h = getD_pad k blank (rows f n) i d (rw (length_rows f n) h) ∙ rows_at f n i d h
