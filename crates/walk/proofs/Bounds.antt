-- The limit of a task answers for all tasks of higher priority at once: one comparison tells whether any of them breaks the bound.
use mathlib.Core.Path.{◌≡◌, sym, ap, ◌∙◌}
use mathlib.Core.List.{List}
use Prim.Native.Nat.{ℕ, ◌+◌, ◌≤◌, min}
use native.Mathlib.Omega.{arith}
use lib.ListN.{get_or}
use Rattle.laws.specs.Tests.{◌<?◌, found}
use Rattle.laws.specs.Sums.{least_of}
use Rattle.laws.proofs.Sequences.{lowest_within}
use Rattle.laws.proofs.Least.{least_below}
use Rattle.laws.proofs.Rows.{row_in}
use Rattle.common.specs.Raw.{breaker_at}
use Rattle.walk.specs.Walk.{never, latest_end, limits_of}

pub limit_tells : (earliest slack : List ℕ) (count t task end : ℕ) → end ≤ never
    → (get_or (limits_of earliest slack count t) (min task count) 0 <? end) ≡ found (breaker_at earliest slack count task end t)
unfolding breaker_at latest_end
limit_tells earliest slack count t task end h =
    ap (λ (n : ℕ). n <? end) (row_in (least_of never (latest_end earliest slack t)) 65 0 (count + 1) (min task count) 0 (omega arith))
    ∙ least_below never (latest_end earliest slack t) end (min task count) h
    ∙ ap found (sym (lowest_within (λ i. latest_end earliest slack t i <? end) task count))
