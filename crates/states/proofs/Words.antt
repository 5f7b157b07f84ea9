-- Laws of marks as words, of the first words of a list, and of sums that might wrap.
use mathlib.Core.Path.{◌≡◌, refl, sym, ap, ◌∙◌}
use mathlib.Core.Bool.{Bool, true, false, ◌||◌, true≢false}
use mathlib.Core.List.{List, [], ◌∷◌, ◌++◌}
use mathlib.Core.Logic.{⊎_elim}
use Prim.Native.Nat.{ℕ, zero, suc, ◌+◌, ◌-◌, ◌≤◌}
use native.Mathlib.Omega.{arith}
use borrow.Author.Tests.{le-leb, lt-leb}
use lib.ListN.{length, drop, get_or}
use Rattle.laws.specs.Tests.{◌=?◌, ◌≤?◌}
use Rattle.laws.specs.Lists.{rows}
use Rattle.laws.proofs.Tests.{eqb_cases, lt_or_ge}
use Rattle.states.specs.Common.{mark}

pub mark_back : (b : Bool) → (mark b =? 1) ≡ b
mark_back true = refl
mark_back false = refl

pub mark_small : (b : Bool) → mark b ≤ 1
mark_small true = omega arith
mark_small false = omega arith

-- a word of 0 or 1 is its mark
pub word_back : (w : ℕ) → w ≤ 1 → mark (w =? 1) ≡ w
word_back w h = eqb_cases (λ b. mark b ≡ w) w 1 (λ e. omega arith) (λ d. by w h d)
  where
    by : (w : ℕ) → w ≤ 1 → (w ≡ 1 → ⊥) → 0 ≡ w
    by zero h d = refl
    by (suc zero) h d = absurd (d refl)
    by (suc (suc w)) h d = absurd (omega arith)

pub or_second : (a b : Bool) → (a || b) ≡ true → a ≡ false → b ≡ true
or_second true b h e = absurd (true≢false e)
or_second false b h e = h

-- a list from its first n elements on
pub front : (n : ℕ) (l : List ℕ) → n ≤ length l → rows (λ k. get_or l k 0) n ++ drop n l ≡ l
unfolding rows
front zero l h = refl
front (suc n) [] h = absurd (omega arith)
front (suc n) (x ∷ l) h = ap (λ (m : List ℕ). x ∷ m) (front n l (omega arith))

-- a sum tested by a difference
pub by_difference : (a b c : ℕ) → a ≤ c → (b ≤? c - a) ≡ (a + b ≤? c)
by_difference a b c h =
    ⊎_elim (λ l. lt-leb b (c - a) l ∙ sym (lt-leb (a + b) c (omega arith))) (λ l. le-leb b (c - a) l ∙ sym (le-leb (a + b) c (omega arith))) (lt_or_ge (c - a) b)
