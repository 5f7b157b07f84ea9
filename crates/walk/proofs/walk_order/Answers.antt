-- The limits are the table's, so a place passes its limit where the bound is broken there.
use mathlib.Core.Path.{◌≡◌, ap, ◌∙◌}
use mathlib.Core.List.{List}
use Prim.Native.Nat.{ℕ, ◌+◌}
use native.Mathlib.Omega.{arith}
use lib.ListN.{get_or}
use Rattle.laws.specs.Search.{first_from}
use Rattle.laws.proofs.First.{first_same}
use Rattle.common.specs.Raw.{projected_at, Summable}
use Rattle.common.proofs.Summing.{projected_below}
use Rattle.walk.specs.declared.Walked.{Walked}
use Rattle.walk.specs.Walk.{limits_of, walked_to, passes_limit, broken_at}
use Rattle.walk.proofs.Bounds.{limit_tells}
use Rattle.walk.proofs.walk_order.Goals as goal

module _ (longest tasks : List ℕ) (start : ℕ) (earliest slack : List ℕ) (count t from kept : ℕ) (s : Summable longest tasks start kept) where
  tells : {limits : List ℕ} → limits ≡ limits_of earliest slack count t
      → first_from (passes_limit longest tasks start limits count) from kept ≡ first_from (broken_at longest tasks start earliest slack count t) from kept
  tells e = first_same _ _ from kept (λ n l h. rw e
      (limit_tells earliest slack count t (get_or tasks n 0) (projected_at longest tasks start (n + 1)) (omega (arith, projected_below s (n + 1) (omega arith), s.soon, s.few))))

  walked : {limits : List ℕ} → limits ≡ limits_of earliest slack count t
      → {r : Walked} → r ≡ walked_to longest tasks start (first_from (passes_limit longest tasks start limits count) from kept)
      → r ≡ walked_to longest tasks start (first_from (broken_at longest tasks start earliest slack count t) from kept)
  walked e p = p ∙ ap (walked_to longest tasks start) (tells e)

pub returns : goal.returns
returns c = search walked
