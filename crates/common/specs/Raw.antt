-- The rules read off the arrays themselves, so that what runs once a position or once a task is lent two arrays and no whole record.
-- That each is what the rules say of the table and the record is proved in proofs/Raw.antt.
use Rattle.std.specs.Prelude.{◌&&◌, List, ℕ, ◌+◌, ◌^◌, ◌≤◌, ◌<◌, max, get_or}
use Rattle.std.proofs.Math.Option.{Option, none, some}
use Rattle.laws.specs.Tests.{◌<?◌}
use Rattle.laws.specs.Search.{lowest}
use Rattle.laws.specs.Sums.{total}
use Rattle.laws.specs.Lists.{rows}
use Rattle.std.specs.Prelude as code
use Rattle.std.specs.Prelude.{Some, None}

-- "the larger of E(i) and t"
unfoldable pub earliest_of : List ℕ → ℕ → ℕ → ℕ
earliest_of earliest i t = max (get_or earliest i 0) t

-- "W plus the C of every job": of the first n.
unfoldable pub projected_at : List ℕ → List ℕ → ℕ → ℕ → ℕ
projected_at longest tasks start n = start + total (rows (λ k. get_or longest (get_or tasks k 0) 0) n)

-- "for every task i of higher priority than the job there": the lowest of them whose earliest release plus slack comes before the end.
unfoldable pub breaker_at : List ℕ → List ℕ → ℕ → ℕ → ℕ → ℕ → Option ℕ
breaker_at earliest slack count task end t = lowest (λ i. (i <? task) && (earliest_of earliest i t + get_or slack i 0 <? end)) count

-- The bound holds, or the lowest-numbered task that breaks it.
abbrev pub breach_of : Option ℕ → code.Option ℕ
breach_of none = None
breach_of (some i) = Some i

-- What the sum of the first n asks: known tasks, and numbers so small that it does not wrap.
pub record Summable (longest tasks : List ℕ) (start n : ℕ) : Type 0 where
  pub few : n ≤ 256
  pub known : (k : ℕ) → k < n → get_or tasks k 0 < 64
  pub small : (k : ℕ) → k < n → get_or longest (get_or tasks k 0) 0 ≤ 4294967295
  pub soon : start < 2 ^ 49

-- What the test of the bound at time t asks of the first `count` tasks.
pub record Boundable (earliest slack : List ℕ) (count t : ℕ) : Type 0 where
  pub few : count ≤ 64
  pub soon : (i : ℕ) → i < count → get_or earliest i 0 < 2 ^ 49
  pub small : (i : ℕ) → i < count → get_or slack i 0 ≤ 4294967295
  pub time : t < 2 ^ 49
