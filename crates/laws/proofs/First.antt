-- Laws of the first number from one on that passes a test.
--     First, first-is, first_says                            what it is
--     Clear, clear-start, clear_next, clear-found, clear-end a loop that goes up from 0 and stops there
--     first-end, first-down                                  a loop that goes down and keeps the last that it met
--     first-same, first_below, first-lowest, first-none      tests that agree; a limit below; the search from 0
use Rattle.std.specs.Prelude.{if◌then◌else◌}
use mathlib.Core.Path.{◌≡◌, sym, ap, ◌∙◌}
use mathlib.Core.Bool.{Bool, true, false, not}
use mathlib.Core.Option.{Option, none, some}
use mathlib.Core.Logic.{◌⊎◌, inl, inr}
use Prim.Native.Nat.{ℕ, ◌+◌, ◌-◌, ◌≤◌, ◌<◌}
use native.Mathlib.Omega.{arith}
use native.Mathlib.Nat.{eq-or-lt_of_le}
use borrow.Author.Tests.{lt-ltb, le-ltb}
use Rattle.laws.specs.Tests.{◌<?◌, maybe, found}
use Rattle.laws.specs.Search.{lowest, first_from}
use Rattle.laws.proofs.Tests.{lt_or_ge, not_found}
use Rattle.laws.proofs.Search.{lowest_found, lowest_says, find_none, lowest_same, Says}

module _ (f : ℕ → Bool) (n : ℕ) where
  -- r is the first from `from` on that passes, or n
  pub record First (from r : ℕ) : Type 0 where
    pub down : from ≤ r
    pub up : r ≤ n
    pub before : (j : ℕ) → from ≤ j → j < r → f j ≡ false
    pub there : r < n → f r ≡ true

  abbrev shifted : ℕ → ℕ → Bool
  shifted from k = f (from + k)

  nothing_yet : (from i : ℕ) → from ≤ i → ((j : ℕ) → from ≤ j → j < i → f j ≡ false) → lowest (shifted from) (i - from) ≡ none
  nothing_yet from i l h = not_found (lowest (shifted from) (i - from)) (find_none (shifted from) (i - from) (λ j q. h (from + j) (omega arith) (omega arith)))

  -- found in the search, whatever its limit past it
  found_there : (from r : ℕ) → First from r → f r ≡ true → (m : ℕ) → r < m → lowest (shifted from) (m - from) ≡ some (r - from)
  found_there from r d p m l =
      let e : from + (r - from) ≡ r = omega (arith, d.down) in
      lowest_found (shifted from) (r - from) (nothing_yet from r d.down d.before) (rw e p) (m - from) (omega (arith, d.down))

  pub first_is : {from r : ℕ} → First from r → r ≡ first_from f from n
  unfolding first_from
  first_is {from} {r} d = by (eq-or-lt_of_le d.up)
    where
      by : (r ≡ n) ⊎ (r < n) → r ≡ from + maybe (n - from) (λ k. k) (lowest (shifted from) (n - from))
      by (inl q) =
          let e : lowest (shifted from) (n - from) ≡ none = nothing_yet from n (omega (arith, d.down)) (λ j a b. d.before j a (omega arith)) in
          rw e (omega (arith, d.down))
      by (inr q) = rw (found_there from r d (d.there q) n q) (omega (arith, d.down))

  pub first_says : (from : ℕ) → from ≤ n → First from (first_from f from n)
  unfolding first_from
  first_says from h = by (lowest (shifted from) (n - from)) (lowest_says (shifted from) (n - from))
    where
      reached : (i j : ℕ) → ((k : ℕ) → k < i → shifted from k ≡ false) → from ≤ j → j < from + i → f j ≡ false
      reached i j s a b =
          let e : from + (j - from) ≡ j = omega arith in
          rw e at (s (j - from) (omega arith))

      by : (o : Option ℕ) → Says (shifted from) (n - from) o → First from (from + maybe (n - from) (λ k. k) o)
      by none s = record { down = omega arith; up = omega arith; before = λ j a b. reached (n - from) j s a b; there = λ l. absurd (omega arith) }
      by (some i) s = record { down = omega arith; up = omega (arith, s.inside); before = λ j a b. reached i j s.first a b; there = λ l. s.passes }

  -- upward: none from `from` on and below i passes
  pub record Clear (from i : ℕ) : Type 0 where
    pub up : i ≤ n
    pub before : (j : ℕ) → from ≤ j → j < i → f j ≡ false

  pub clear_start : {from : ℕ} → Clear from 0
  clear_start = record { up = omega arith; before = λ j a b. absurd (omega arith) }

  module _ {from i : ℕ} (v : Clear from i) where
    pub clear_next : i < n → (from ≤ i → f i ≡ false) → Clear from (i + 1)
    clear_next h e = record { up = omega arith; before = λ j a b. by j a (eq-or-lt_of_le (up_to j b)) }
      where
        up_to : (j : ℕ) → j < i + 1 → j ≤ i
        up_to j b = omega arith

        by : (j : ℕ) → from ≤ j → (j ≡ i) ⊎ (j < i) → f j ≡ false
        by j a (inl q) = rw q (e (omega arith))
        by j a (inr q) = v.before j a q

    pub clear_found : from ≤ i → f i ≡ true → i ≡ first_from f from n
    clear_found h e = first_is (record { down = h; up = v.up; before = v.before; there = λ l. e })

    pub clear_end : from ≤ n → n ≤ i → i ≡ first_from f from n
    clear_end h l = first_is (record { down = omega arith; up = v.up; before = v.before; there = λ q. absurd (omega arith) })

  -- downward: from the end, where none is left
  pub first_end : First n n
  first_end = record { down = omega arith; up = omega arith; before = λ j a b. absurd (omega arith); there = λ l. absurd (omega arith) }

  pub first_down : {i r : ℕ} → First i r → 0 < i → i ≤ n → (keeps : Bool) → f (i - 1) ≡ not keeps → First (i - 1) (if keeps then r else i - 1)
  first_down {i} {r} d h l true e = record {
    down = omega (arith, d.down);
    up = d.up;
    before = λ j a b. by j (eq-or-lt_of_le a) b;
    there = d.there;
  }
    where
      by : (j : ℕ) → (i - 1 ≡ j) ⊎ (i - 1 < j) → j < r → f j ≡ false
      by j (inl q) b = rw (← q) e
      by j (inr q) b = d.before j (omega arith) b
  first_down {i} {r} d h l false e = record {
    down = omega arith;
    up = omega arith;
    before = λ j a b. absurd (omega arith);
    there = λ q. e;
  }

  -- "some number from `from` on and below m passes" is one comparison
  pub first_below : (from m : ℕ) → from ≤ n → m ≤ n → found (lowest (λ k. f (from + k)) (m - from)) ≡ (first_from f from n <? m)
  first_below from m a h = by (first_from f from n) (first_says from a)
    where
      by : (r : ℕ) → First from r → found (lowest (shifted from) (m - from)) ≡ (r <? m)
      by r d = split (lt_or_ge r m)
        where
          split : (r < m) ⊎ (m ≤ r) → found (lowest (shifted from) (m - from)) ≡ (r <? m)
          split (inl l) = ap found (found_there from r d (d.there (omega arith)) m l) ∙ sym (lt-ltb r m l)
          split (inr l) = find_none (shifted from) (m - from) (λ j q. d.before (from + j) (omega arith) (omega arith)) ∙ sym (le-ltb r m l)

  -- from 0 on it is the lowest of all
  pub first_lowest : {r : ℕ} → r ≡ first_from f 0 n → r < n → lowest f n ≡ some r
  first_lowest {r} e l =
      let d : First 0 r = rw e (first_says 0 (omega arith)) in
      lowest_found f r (not_found (lowest f r) (find_none f r (λ j q. d.before j (omega arith) q))) (d.there l) n l

  pub first_none : {r : ℕ} → r ≡ first_from f 0 n → n ≤ r → lowest f n ≡ none
  first_none {r} e l =
      let d : First 0 r = rw e (first_says 0 (omega arith)) in
      not_found (lowest f n) (find_none f n (λ j q. d.before j (omega arith) (omega arith)))

-- tests that agree on those numbers
pub first_same : (f g : ℕ → Bool) (from n : ℕ) → ((i : ℕ) → from ≤ i → i < n → f i ≡ g i) → first_from f from n ≡ first_from g from n
unfolding first_from
first_same f g from n h =
    ap (λ o. from + maybe (n - from) (λ k. k) o) (lowest_same (λ k. f (from + k)) (λ k. g (from + k)) (n - from) (λ k l. h (from + k) (omega arith) (omega arith)))
