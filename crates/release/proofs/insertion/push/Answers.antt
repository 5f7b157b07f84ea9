-- `insertion::push` meets its contract: the block from the place on moved up by one, and the job written into the room.
use mathlib.Core.Path.{◌≡◌}
use mathlib.Core.List.{List, ◌++◌, append_assoc}
use Prim.Native.Nat.{ℕ, ◌+◌, ◌-◌, ◌≤◌, ◌<◌}
use native.Mathlib.Omega.{arith}
use native.Mathlib.Numerals.{add-one}
use lib.ListN.{length, set, take, drop, length-append}
use lib.Seq.{length-take-le, set_split, take-append-le, take-take, drop_at}
use Rattle.std.specs.List.{copy_within}
use Rattle.laws.specs.Lists.{push_in}
use Rattle.release.specs.Insertion.{Packed}
use Rattle.release.proofs.Order.{packed_long}
use Rattle.release.proofs.insertion.push.Goals as goal

moved : {tasks new : List ℕ} {count at : ℕ} (x : ℕ) → Packed tasks count → at ≤ count → count < 256 → new ≡ copy_within tasks at count (at + 1)
    → set new at x ≡ push_in tasks count at x
unfolding push_in
moved {tasks} {new} {count} {at} x v p m e =
    let low : List ℕ = take (at + 1) tasks in
    let rest : List ℕ = take (count - at) (drop at tasks) ++ drop (count + 1) tasks in
    let n : at + 1 + (count - at) ≡ count + 1 = omega arith in
    let k : length low ≡ at + 1 = length-take-le (at + 1) tasks (omega (arith, packed_long v)) in
    let h : at < length (low ++ rest) = omega (arith, length-append low rest) in
    let l : at ≤ length low = omega arith in
    rw (e, n, append_assoc low (take (count - at) (drop at tasks)) (drop (count + 1) tasks), set_split (low ++ rest) at x h, take-append-le at low rest l, take-take at (at + 1) tasks (omega arith), ← add-one at, drop_at low rest (at + 1) k)

pub returns : goal.returns
returns c = moved c.args.task c.requires.0 c.requires.1 c.requires.2 c.copy_within.ensures.after
