-- Laws of the least of a sequence: one comparison with it tells whether any of the sequence lies below a number.
use Rattle.std.specs.Prelude.{if◌then◌else◌}
use mathlib.Core.Path.{◌≡◌, refl, ap, ◌∙◌}
use mathlib.Core.Bool.{Bool, true, false, ◌||◌}
use mathlib.Core.Option.{Option, none, some}
use mathlib.Core.Logic.{◌⊎◌, inl, inr}
use Prim.Native.Nat.{ℕ, zero, suc, ◌+◌, ◌≤◌, ◌<◌, min}
use native.Mathlib.Omega.{arith}
use native.Mathlib.Numerals.{add-one}
use borrow.Author.Tests.{lt-ltb, le-ltb}
use Rattle.laws.specs.Tests.{◌<?◌, or_else, found}
use Rattle.laws.specs.Search.{lowest}
use Rattle.laws.specs.Sums.{least_of}
use Rattle.laws.proofs.Tests.{lt_or_ge}

pub least_none : (top : ℕ) (f : ℕ → ℕ) → least_of top f 0 ≡ top
unfolding least_of
least_none top f = refl

pub least_next : (top : ℕ) (f : ℕ → ℕ) (n : ℕ) → least_of top f (n + 1) ≡ min (f n) (least_of top f n)
unfolding least_of
least_next top f n = rw (add-one n)

min_below : (a b end : ℕ) → (min a b <? end) ≡ ((b <? end) || (a <? end))
min_below a b end = by (lt_or_ge b end) (lt_or_ge a end)
  where
    by : (b < end) ⊎ (end ≤ b) → (a < end) ⊎ (end ≤ a) → (min a b <? end) ≡ ((b <? end) || (a <? end))
    by (inl p) q = rw (lt-ltb b end p) (lt-ltb (min a b) end (omega arith))
    by (inr p) (inl q) = rw (le-ltb b end p, lt-ltb a end q) (lt-ltb (min a b) end (omega arith))
    by (inr p) (inr q) = rw (le-ltb b end p, le-ltb a end q) (le-ltb (min a b) end (omega arith))

found_next : (o : Option ℕ) (t : Bool) (n : ℕ) → (found o || t) ≡ found (or_else o (if t then some n else none))
found_next (some i) t n = refl
found_next none true n = refl
found_next none false n = refl

pub least_below : (top : ℕ) (f : ℕ → ℕ) (end k : ℕ) → end ≤ top → (least_of top f k <? end) ≡ found (lowest (λ i. f i <? end) k)
unfolding least_of lowest
least_below top f end zero h = le-ltb top end h
least_below top f end (suc k) h =
    min_below (f k) (least_of top f k) end
    ∙ ap (λ (b : Bool). b || (f k <? end)) (least_below top f end k h)
    ∙ found_next (lowest (λ i. f i <? end) k) (f k <? end) k
