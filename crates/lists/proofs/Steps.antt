-- Elements of so many words each, read by their places: from the words of a list that list is read again. Once for releases and entries.
use mathlib.Core.Path.{◌≡◌, sym, ap, ap₂, ◌∙◌}
use mathlib.Core.List.{List, [], ◌∷◌, ◌++◌, append_assoc, append-nil}
use Prim.Native.Nat.{ℕ, zero, suc, ◌+◌, ◌-◌, ◌*◌, ◌≤◌}
use native.Mathlib.Nat.{mul-one}
use native.Mathlib.Omega.{arith}
use lib.ListN.{length, drop}
use lib.Seq.{drop_at}
use Rattle.laws.specs.Lists.{rows, over}
use Rattle.laws.proofs.Sequences.{rows_same}
use Rattle.lists.specs.Lists.{joined}
use Rattle.lists.proofs.Putting.{length_joined}

-- a sequence from its n-th on
drop_rows : {A : Type 0} (g : ℕ → A) (n k : ℕ) → drop n (rows g (n + k)) ≡ rows (λ i. g (n + i)) k
unfolding rows
drop_rows g zero k =
    let e : 0 + k ≡ k = omega arith in
    rw e (rows_same g (λ i. g (0 + i)) k (λ i h. let z : i ≡ 0 + i = omega arith in ap g z))
drop_rows g (suc n) k =
    let e : suc n + k ≡ suc (n + k) = omega arith in
    rw e (drop_rows (λ i. g (suc i)) n k ∙ rows_same (λ i. g (suc (n + i))) (λ i. g (suc n + i)) k (λ i h. let z : suc (n + i) ≡ suc n + i = omega arith in ap g z))

module _ {A : Type 0} (f : A → List ℕ) (each : ℕ) (same : (x : A) → length (f x) ≡ each) where
  -- what is read of each place, so many words on, is what is read of a later place
  abbrev pub Steady : {B : Type 0} → (List ℕ → ℕ → B) → Type 0
  Steady read = (n : ℕ) (ws : List ℕ) (i : ℕ) → read (drop (each * n) ws) i ≡ read ws (n + i)

  pub past : {B : Type 0} (read : List ℕ → ℕ → B) → Steady read → (x : A) (ws : List ℕ) (i : ℕ) → read (f x ++ ws) (suc i) ≡ read ws i
  past read s x ws i =
      let e : 1 + i ≡ suc i = omega arith in
      let d : drop (each * 1) (f x ++ ws) ≡ ws = drop_at (f x) ws (each * 1) (same x ∙ sym (mul-one each)) in
      sym (ap (λ (l : List ℕ). read l i) (sym d) ∙ s 1 (f x ++ ws) i ∙ ap (read (f x ++ ws)) e)

  module _ (read : List ℕ → ℕ → A) (steady : Steady read) (here : (x : A) (ws : List ℕ) → read (f x ++ ws) 0 ≡ x) where
    read_front : (xs : List A) (rest : List ℕ) (k : ℕ) → rows (read (joined f xs ++ rest)) (length xs + k) ≡ xs ++ rows (read rest) k
    unfolding rows
    read_front [] rest k =
        let e : 0 + k ≡ k = omega arith in
        rw e
    read_front (x ∷ xs) rest k =
        let ws : List ℕ = joined f xs ++ rest in
        let e : suc (length xs) + k ≡ suc (length xs + k) = omega arith in
        rw (e, append_assoc (f x) (joined f xs) rest)
        (ap₂ (λ (y : A) (ys : List A). y ∷ ys) (here x ws) (rows_same (λ i. read (f x ++ ws) (suc i)) (read ws) (length xs + k) (λ i h. past read steady x ws i) ∙ read_front xs rest k))

    pub read_all : (xs : List A) → rows (read (joined f xs)) (length xs) ≡ xs
    unfolding rows
    read_all xs =
        let e : length xs + 0 ≡ length xs = omega arith in
        (rw (e, append-nil (joined f xs)) at (read_front xs [] 0)) ∙ append-nil xs

    pub read_over : (xs : List A) (lent : List ℕ) (m : ℕ) → length xs ≤ m → rows (read (over (joined f xs) lent)) m ≡ over xs (rows (read lent) m)
    read_over xs lent m h =
        let e : m ≡ length xs + (m - length xs) = omega arith in
        let n : ℕ = length xs in
        let k : ℕ = m - length xs in
        ap₂ (λ (j a : ℕ). rows (read (joined f xs ++ drop j lent)) a) (length_joined f each same xs) e
        ∙ read_front xs (drop (each * n) lent) k
        ∙ ap (λ (l : List A). xs ++ l) (rows_same (read (drop (each * n) lent)) (λ i. read lent (n + i)) k (λ i l. steady n lent i) ∙ sym (drop_rows (read lent) n k) ∙ ap (λ (a : ℕ). drop n (rows (read lent) a)) (sym e))
