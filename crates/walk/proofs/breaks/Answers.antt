-- `walk::breaks` meets its contract, test by test. Assumes nothing.
use mathlib.Core.Path.{◌≡◌}
use mathlib.Core.Bool.{◌&&◌}
use mathlib.Core.List.{List}
use Prim.Native.Nat.{ℕ, ◌≤◌, ◌<◌, min}
use borrow.Author.Tests.{le-leb, lt-leb}
use lib.ListN.{get_or}
use Rattle.laws.specs.Tests.{◌<?◌, ◌≤?◌}
use Rattle.walk.proofs.breaks.Goals as goal

module _ (limits : List ℕ) (count from k task end : ℕ) where
  not_yet : k < from → (from ≤? k) ≡ ((from ≤? k) && (get_or limits (min task count) 0 <? end))
  not_yet h = rw (lt-leb from k h)

  tried : from ≤ k → {j : ℕ} → j ≡ min task count → (get_or limits j 0 <? end) ≡ ((from ≤? k) && (get_or limits (min task count) 0 <? end))
  tried h p = rw (le-leb from k h, p)

pub returns-else-from-k : goal.returns-else-from-k
returns-else-from-k c = search not_yet

pub returns-then-from-k : goal.returns-then-from-k
returns-then-from-k c = search tried
