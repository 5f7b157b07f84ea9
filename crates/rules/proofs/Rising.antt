-- Records whose r rises: the r tells the place.
use mathlib.Core.Path.{◌≡◌, refl, ap}
use mathlib.Core.List.Memᴰ
use mathlib.Core.List.{List, [], ◌∷◌, ◌++◌, Memᴰ, head-eq_of_cons-eq, tail-eq_of_cons-eq}
use mathlib.Core.Logic.{◌⊎◌, inl, inr, ⊎_elim}
use Prim.Native.Nat.{ℕ, ◌<◌}
use native.Mathlib.Omega.{arith}
use Rattle.rules.specs.Judge.{Round}

abbrev r_of : Round → ℕ
r_of q = q.r

-- each of the records is of a time below t
abbrev pub Below : ℕ → List Round → Type 0
Below t qs = (q : Round) → Memᴰ q qs → q.r < t

abbrev pub Rising : List Round → Type 0
Rising [] = Unit {0}
Rising (q ∷ qs) = ((p : Round) → Memᴰ p qs → q.r < p.r) × Rising qs

pub mem_mid : (xs : List Round) (q : Round) (ys : List Round) → Memᴰ q (xs ++ (q ∷ ys))
mem_mid xs q ys = Memᴰ.append_right xs (Memᴰ.head refl)

pub mem_split : {l : List Round} (xs : List Round) (q : Round) (ys : List Round) → l ≡ xs ++ (q ∷ ys) → Memᴰ q l
mem_split xs q ys e = rw e (mem_mid xs q ys)

pub rising_snoc : (qs : List Round) (q : Round) → Rising qs → Below q.r qs → Rising (qs ++ (q ∷ []))
rising_snoc [] q h b = (λ p m. absurd (Memᴰ.not-nil m), tt)
rising_snoc (x ∷ qs) q h b = (later, rising_snoc qs q h.1 (λ p m. b p (Memᴰ.tail m)))
  where
    later : (p : Round) → Memᴰ p (qs ++ (q ∷ [])) → x.r < p.r
    later p m = ⊎_elim (h.0 p) (λ n. omega (arith, ap r_of (Memᴰ.eq_of_singleton n), b x (Memᴰ.head refl))) (Memᴰ.append_cases qs m)

pub rising_apart : (xs : List Round) (q : Round) (ys : List Round) {p : Round} → Rising (xs ++ (q ∷ ys)) → Memᴰ p xs → p.r < q.r
rising_apart [] q ys h m = absurd (Memᴰ.not-nil m)
rising_apart (x ∷ xs) q ys {p} h m = by (Memᴰ.cases_cons m) (rising_apart xs q ys h.1)
  where
    by : (p ≡ x) ⊎ Memᴰ p xs → (Memᴰ p xs → p.r < q.r) → p.r < q.r
    by (inl e) ih = omega (arith, ap r_of e, h.0 q (mem_mid xs q ys))
    by (inr n) ih = ih n

-- two records of a rising list that have the same r stand at the same place
pub same_place : (a b : List Round) {p q : Round} (c d : List Round) → Rising (a ++ (p ∷ c)) → a ++ (p ∷ c) ≡ b ++ (q ∷ d) → p.r ≡ q.r → (a ≡ b) × (p ≡ q)
same_place [] [] c d h e t = (refl, head-eq_of_cons-eq e)
same_place [] (y ∷ b) {p} {q} c d h e t = absurd (omega (arith, h.0 q (mem_split b q d (tail-eq_of_cons-eq e))))
same_place (x ∷ a) [] {p} {q} c d h e t = absurd (omega (arith, h.0 p (mem_mid a p c), ap r_of (head-eq_of_cons-eq e)))
same_place (x ∷ a) (y ∷ b) {p} {q} c d h e t =
    let k : (a ≡ b) × (p ≡ q) = same_place a b c d h.1 (tail-eq_of_cons-eq e) t in
    (λ i. head-eq_of_cons-eq e i ∷ k.0 i, k.1)
