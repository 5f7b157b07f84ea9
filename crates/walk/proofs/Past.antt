-- The first place past O that breaks the bound, as the judging of a report asks for it: some position from O + 1 to the last, which is at most L,
-- breaks it where that place comes before the last. It holds of any test of a position, so of any order of priorities.
use mathlib.Core.Path.{◌≡◌, sym, ap, ◌∙◌}
use mathlib.Core.Bool.{Bool}
use mathlib.Core.Logic.{◌⊎◌, inl, inr}
use Prim.Native.Nat.{ℕ, ◌+◌, ◌-◌, ◌≤◌, ◌<◌}
use native.Mathlib.Omega.{arith}
use borrow.Author.Tests.{lt-ltb, le-ltb}
use Rattle.laws.specs.Tests.{◌<?◌, found}
use Rattle.laws.specs.Search.{lowest, first_from}
use Rattle.laws.proofs.Tests.{lt_or_ge}
use Rattle.laws.proofs.Search.{lowest_same}
use Rattle.laws.proofs.First.{first_below}

-- a place before another, as positions past B
moved : (base c last : ℕ) → (c <? last - base) ≡ (base + c <? last)
moved base c last = by (lt_or_ge (base + c) last)
  where
    by : (base + c < last) ⊎ (last ≤ base + c) → (c <? last - base) ≡ (base + c <? last)
    by (inl p) = lt-ltb c (last - base) (omega arith) ∙ sym (lt-ltb (base + c) last p)
    by (inr p) = le-ltb c (last - base) (omega arith) ∙ sym (le-ltb (base + c) last p)

pub over_past : (broken f : ℕ → Bool) (base offset kept last : ℕ) → base ≤ offset → offset ≤ base + kept → last ≤ base + kept
    → ((n : ℕ) → offset - base ≤ n → n < kept → broken (base + n + 1) ≡ f n)
    → found (lowest (λ k. broken (offset + 1 + k)) (last - offset)) ≡ (base + first_from f (offset - base) kept <? last)
over_past broken f base offset kept last h o l same =
    ap found (lowest_same _ _ (last - offset) (λ k q. there k q))
    ∙ rw span at (first_below f kept (offset - base) (last - base) (omega arith) (omega arith))
    ∙ moved base (first_from f (offset - base) kept) last
  where
    span : last - base - (offset - base) ≡ last - offset
    span = omega arith

    there : (k : ℕ) → k < last - offset → broken (offset + 1 + k) ≡ f (offset - base + k)
    there k q =
        let e : base + (offset - base + k) + 1 ≡ offset + 1 + k = omega arith in
        rw e at (same (offset - base + k) (omega arith) (omega arith))
