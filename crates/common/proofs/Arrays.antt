-- The definitions over arrays, a job or a task at a time.
use mathlib.Core.Path.{◌≡◌}
use mathlib.Core.Bool.{Bool, true, false}
use mathlib.Core.List.{List}
use Prim.Native.Nat.{ℕ, ◌+◌, ◌≤◌, ◌<◌, min}
use native.Mathlib.Omega.{arith}
use borrow.Author.Tests.{lt-ltb, le-ltb}
use lib.ListN.{get_or}
use Rattle.laws.specs.Tests.{◌<?◌}
use Rattle.laws.specs.Search.{lowest}
use Rattle.laws.specs.Sums.{total}
use Rattle.laws.specs.Lists.{rows}
use Rattle.laws.proofs.Sequences.{sum_next, lowest_within}
use Rattle.common.specs.Raw.{earliest_of, projected_at, breaker_at}

module _ (longest tasks : List ℕ) (start : ℕ) where
  pub projected_none : projected_at longest tasks start 0 ≡ start
  unfolding projected_at rows total
  projected_none = omega arith

  pub projected_next : (k : ℕ) → projected_at longest tasks start (k + 1) ≡ projected_at longest tasks start k + get_or longest (get_or tasks k 0) 0
  unfolding projected_at
  projected_next k = omega (arith, sum_next (λ (k : ℕ). get_or longest (get_or tasks k 0) 0) k)

module _ (earliest slack : List ℕ) (end t : ℕ) where
  -- task i breaks the bound for a job that ends then
  unfoldable pub late_for : ℕ → Bool
  late_for i = earliest_of earliest i t + get_or slack i 0 <? end

  pub breaker_within : (count task : ℕ) → breaker_at earliest slack count task end t ≡ lowest late_for (min task count)
  unfolding breaker_at late_for
  breaker_within count task = lowest_within late_for task count

  pub late_yes : (i : ℕ) → earliest_of earliest i t + get_or slack i 0 < end → late_for i ≡ true
  unfolding late_for
  late_yes i h = lt-ltb _ end h

  pub late_no : (i : ℕ) → end ≤ earliest_of earliest i t + get_or slack i 0 → late_for i ≡ false
  unfolding late_for
  late_no i h = le-ltb _ end h
