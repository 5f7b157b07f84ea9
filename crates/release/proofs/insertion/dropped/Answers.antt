-- `insertion::dropped` meets its contract: those that stay, copied into the first places of a blank array.
use mathlib.Core.Path.{◌≡◌}
use mathlib.Core.List.{List, ◌++◌}
use Prim.Native.Nat.{ℕ, ◌-◌, ◌≤◌}
use native.Mathlib.Omega.{arith}
use lib.ListN.{length, take, drop, replicate, length-take, length-drop}
use Rattle.std.proofs.lemmas.Slice.{between_is}
use Rattle.laws.specs.Lists.{pad}
use Rattle.laws.proofs.Lists.{drop_replicate}
use Rattle.release.specs.Insertion.{Packed}
use Rattle.release.proofs.Order.{packed_long}
use Rattle.release.proofs.insertion.dropped.Goals as goal

copied : {tasks : List ℕ} {count k : ℕ} {stays : List ℕ} → Packed tasks count → k ≤ count → stays ≡ take (count - k) (drop k tasks)
    → stays ++ drop (count - k) (replicate 256 0) ≡ pad 256 0 (drop k (take count tasks))
unfolding pad
copied {tasks} {count} {k} v p e =
    let n : length (drop k (take count tasks)) ≡ count - k = simp (length-drop, length-take) (omega (arith, packed_long v, v.few)) in
    rw (e, between_is tasks k count, n, drop_replicate {A = ℕ} (count - k) 256 0)

pub returns : goal.returns
returns c = copied c.requires.0 c.requires.1 c.copy_from_slice.ensures.after
