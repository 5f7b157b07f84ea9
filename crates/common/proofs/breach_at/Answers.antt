-- The first that the search finds late is the lowest task that breaks the bound.
use mathlib.Core.Path.{◌≡◌}
use mathlib.Core.List.{List}
use Prim.Native.Nat.{ℕ, ◌+◌, ◌^◌, ◌≤◌, ◌<◌, min}
use native.Mathlib.Omega.{arith}
use lib.ListN.{get_or}
use Rattle.std.proofs.Common.{rules, tests, MatchOption, Option, Some, None}
use Rattle.std.proofs.lemmas.Iterator.{serves_from_Range, first_from_Range}
use mathlib.Core.Option.{none}
use Rattle.laws.specs.Search.{lowest}
use Rattle.laws.proofs.Tests.{not_found}
use Rattle.laws.proofs.Search.{find_none, lowest_found}
use Rattle.common.specs.Raw.{earliest_of, breaker_at, breach_of, Boundable}
use Rattle.common.proofs.Arrays.{late_for, late_yes, late_no, breaker_within}
use Rattle.common.proofs.breach_at.Goals as goal

module _ {earliest slack : List ℕ} {count t : ℕ} (b : Boundable earliest slack count t) {i : ℕ} (h : i < count) where
  known : i < 64
  known = omega (arith, b.few)

  fits : earliest_of earliest i t + get_or slack i 0 < 2 ^ 64
  unfolding earliest_of
  fits = omega (arith, b.soon i h, b.small i h, b.time)

module _ (earliest slack : List ℕ) (end t : ℕ) where
  abbrev Late : ℕ → Type 0
  Late i = earliest_of earliest i t + get_or slack i 0 < end

  abbrev InTime : ℕ → Type 0
  InTime i = end ≤ earliest_of earliest i t + get_or slack i 0

  none_late : (i : ℕ) → ((k : ℕ) → 0 ≤ k → k < i → InTime k) → lowest (late_for earliest slack end t) i ≡ none
  none_late i h = not_found _ (find_none (late_for earliest slack end t) i (λ k l. late_no earliest slack end t k (h k (omega arith) l)))

  breach_is : (count task : ℕ) {higher : ℕ} → higher ≡ min task count → (o : Option ℕ)
      → MatchOption o ((k : ℕ) → 0 ≤ k → k < higher → InTime k) (λ i. (0 ≤ i) × (i < higher) × Late i × ((k : ℕ) → 0 ≤ k → k < i → InTime k))
      → o ≡ breach_of (breaker_at earliest slack count task end t)
  breach_is count task q None h = rw (breaker_within earliest slack end t count task, ← q, none_late _ h)
  breach_is count task q (Some i) h =
      let found = lowest_found (late_for earliest slack end t) i (none_late i h.3) (late_yes earliest slack end t i h.2) (min task count) (omega arith) in
      rw (breaker_within earliest slack end t count task, found)

pub find-requires-clause-callable : goal.find-requires-clause-callable
find-requires-clause-callable c =
    serves_from_Range (λ x q k. search (rules, tests)) (λ x low high. search (rules, known, fits))

pub returns : goal.returns
returns c =
    let late = Late c.args.earliest.now c.args.slack.now c.args.end c.args.t in
    let in_time = InTime c.args.earliest.now c.args.slack.now c.args.end c.args.t in
    let first = first_from_Range _ _ _ c.find.result late in_time c.find.ensures.ran (λ x q k. search (rules, tests)) (λ x q k. search (rules, tests)) in
    breach_is _ _ _ _ _ _ c.min-higher.ensures _ first
