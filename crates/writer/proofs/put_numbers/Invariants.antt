-- Numbers stored one behind the other: what is asked is what the numbers from `i` on, from `at` on, still make of the bytes.
use mathlib.Core.Path.{◌≡◌}
use mathlib.Core.Bool.{false}
use mathlib.Core.List.{List}
use Prim.Native.Nat.{ℕ, ◌+◌, ◌≤◌}
use lib.ListN.{length, drop}
use lib.Seq.{sets}
use Rattle.rules.specs.Written.{bytes_of, too_large}
use Rattle.writer.proofs.put_numbers.Given as goal

pub record Inv (bytes₀ ns bytes : List ℕ) (at i : ℕ) : Type 0 where
  pub small : too_large (drop i ns) ≡ false
  pub room : at + length (bytes_of (drop i ns)) ≤ length bytes
  pub to_do : sets bytes₀ 0 (bytes_of ns) ≡ sets bytes at (bytes_of (drop i ns))

abbrev pub invariant-loop-v : goal.invariant-loop-v
invariant-loop-v l = Inv l.initial.bytes l.numbers l.bytes l.at l.v-index
