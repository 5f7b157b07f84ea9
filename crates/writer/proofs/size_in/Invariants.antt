-- The size: what was counted so far, and what the numbers from `i` on take.
use mathlib.Core.Path.{◌≡◌}
use mathlib.Core.List.{List}
use Prim.Native.Nat.{ℕ, ◌+◌, ◌*◌, ◌≤◌}
use lib.ListN.{length, drop}
use Rattle.rules.specs.Written.{bytes_of, too_large}
use Rattle.writer.proofs.size_in.Given as goal

pub record Inv (ns : List ℕ) (total i : ℕ) : Type 0 where
  pub few : length ns ≤ 191
  pub room : total ≤ 9 * i
  pub small : too_large ns ≡ too_large (drop i ns)
  pub sum : length (bytes_of ns) ≡ total + length (bytes_of (drop i ns))

abbrev pub invariant-loop-v : goal.invariant-loop-v
invariant-loop-v l = Inv l.numbers l.total l.v-index
