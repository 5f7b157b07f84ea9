-- One walk a round: the projections, the latest end that a job of each task may have, and how far past O the bound is kept.
-- Places count from 0: place n is position B + n + 1.
use Rattle.std.specs.Prelude.{Bool, List, ℕ, ◌+◌, min, get_or}
use Rattle.laws.specs.Tests.{◌<?◌, found}
use Rattle.laws.specs.Sums.{least_of}
use Rattle.laws.specs.Lists.{rows, pad}
use Rattle.common.specs.Raw.{earliest_of, projected_at, breaker_at}
use Rattle.walk.specs.declared.Walked.{Walked}

-- Later than any end: the limit where there is no task of higher priority.
abbrev pub never : ℕ
never = 9223372036854775808

-- "earliest release of i at t, plus S(i)"
unfoldable pub latest_end : List ℕ → List ℕ → ℕ → ℕ → ℕ
latest_end earliest slack t i = earliest_of earliest i t + get_or slack i 0

-- The latest end that a job of task 0, 1, .. may have, in an array: the least over the tasks before it.
abbrev pub limits_of : List ℕ → List ℕ → ℕ → ℕ → List ℕ
limits_of earliest slack count t = pad 65 0 (rows (least_of never (latest_end earliest slack t)) (count + 1))

-- The projections of B and of the n positions past it, up to which the bound is kept.
abbrev pub walked_to : List ℕ → List ℕ → ℕ → ℕ → Walked
walked_to longest tasks start n = record { ends = pad 257 0 (rows (projected_at longest tasks start) (n + 1)); clear = n }

-- The bound is broken at a place, by limits in an array.
abbrev pub passes_limit : List ℕ → List ℕ → ℕ → List ℕ → ℕ → ℕ → Bool
passes_limit longest tasks start limits count n = get_or limits (min (get_or tasks n 0) count) 0 <? projected_at longest tasks start (n + 1)

-- The same by the rule.
abbrev pub broken_at : List ℕ → List ℕ → ℕ → List ℕ → List ℕ → ℕ → ℕ → ℕ → Bool
broken_at longest tasks start earliest slack count t n = found (breaker_at earliest slack count (get_or tasks n 0) (projected_at longest tasks start (n + 1)) t)
