-- The bound at later times, and class 4 position by position.
use mathlib.Core.Path.{◌≡◌, refl, sym, ◌∙◌}
use mathlib.Core.Bool.{Bool, true, false, true≢false}
use Prim.Native.Nat.{ℕ, ◌+◌, ◌-◌, ◌≤◌, ◌<◌}
use native.Mathlib.Omega.{arith}
use borrow.Author.Tests.{ltb-true, lt-ltb, not-true}
use Rattle.laws.specs.Tests.{◌<?◌, found}
use Rattle.laws.proofs.Tests.{and_yes}
use Rattle.laws.proofs.Search.{none_found, find_none}
use Rattle.rules.specs.Table.{Table, task}
use Rattle.rules.specs.Common.{Job, Common, job_at, higher, earliest, projection, breaks, breaker, within_bound}
use Rattle.rules.specs.Judge.{Report, over_bound}

-- The one property of the comparison that what follows rests on: a task that comes before a job when it is released late does so when it is released earlier.
pub higher_earlier : (tab : Table) (i : ℕ) (j : Job) {t u : ℕ} → t ≤ u → higher tab i u j ≡ true → higher tab i t j ≡ true
higher_earlier tab i j l h = h

pub earliest_later : (c : Common) (i : ℕ) {t u : ℕ} → t ≤ u → earliest c i t ≤ earliest c i u
unfolding earliest
earliest_later c i l = omega arith

module _ (tab : Table) (c : Common) where
  module _ (p : ℕ) {t u : ℕ} (l : t ≤ u) where
    breaks_earlier : (i : ℕ) → breaks tab c p u i ≡ true → breaks tab c p t i ≡ true
    unfolding breaks
    breaks_earlier i h =
        let a = and_yes (higher tab i (earliest c i u) (job_at c p)) (earliest c i u + (task tab i).S <? projection tab c p) h in
        let b : higher tab i (earliest c i t) (job_at c p) ≡ true = higher_earlier tab i (job_at c p) (earliest_later c i l) a.0 in
        let d : earliest c i u + (task tab i).S < projection tab c p = ltb-true _ _ a.1 in
        rw (b, lt-ltb (earliest c i t + (task tab i).S) (projection tab c p) (omega (arith, earliest_later c i l)))

    holds_later : (i : ℕ) → breaks tab c p t i ≡ false → breaks tab c p u i ≡ false
    holds_later i h = by (breaks tab c p u i) refl
      where
        by : (b : Bool) → breaks tab c p u i ≡ b → b ≡ false
        by true e = absurd (true≢false (sym (breaks_earlier i e) ∙ h))
        by false e = refl

    pub bound_stays : within_bound tab c p t ≡ true → within_bound tab c p u ≡ true
    unfolding breaker
    bound_stays h =
        let e : found (breaker tab c p t) ≡ false = not-true _ h in
        let f : found (breaker tab c p u) ≡ false = find_none _ _ (λ i k. holds_later i (none_found _ _ e i k)) in
        rw f

  -- "some position from O + 1 to progress + run breaks the bound at r": none does, and the bound holds at each
  module _ (r : ℕ) (e : Report) where
    pub bound_each : over_bound tab c r e ≡ false → (p : ℕ) → c.O < p → p ≤ e.progress + e.run → within_bound tab c p r ≡ true
    unfolding over_bound
    bound_each h p l m =
        let k : c.O + 1 + (p - c.O - 1) ≡ p = omega arith in
        let n = none_found _ _ h (p - c.O - 1) (omega arith) in
        rw (rw k at n)

    pub each_bound : ((p : ℕ) → c.O < p → p ≤ e.progress + e.run → within_bound tab c p r ≡ true) → over_bound tab c r e ≡ false
    unfolding over_bound
    each_bound h = find_none _ _ (λ k l. not-true _ (h (c.O + 1 + k) (omega arith) (omega arith)))
