-- The store's loop: what is asked is what the stores of the groups of `rest`, from `at` on, still make of the bytes, and `last` is the place of the
-- last group.
use mathlib.Core.Path.{◌≡◌}
use mathlib.Core.List.{List}
use Prim.Native.Nat.{ℕ, suc, ◌+◌, ◌-◌, ◌^◌, ◌<◌}
use lib.ListN.{length}
use lib.Seq.{sets}
use Rattle.rules.specs.Numbers.{groups, number_bytes}
use Rattle.number.proofs.put_number.Given as goal

-- so many groups may follow
pub record Inv (bytes₀ : List ℕ) (from value : ℕ) (bytes : List ℕ) (rest left last at : ℕ) : Type 0 where
  pub small : rest < 128 ^ suc left
  pub size : at + length (groups left rest) ≡ last + 1
  pub to_do : sets bytes₀ from (number_bytes value) ≡ sets bytes at (groups left rest)

abbrev pub invariant-loop-at : goal.invariant-loop-at
invariant-loop-at l = Inv l.initial.bytes l.from l.value l.bytes l.rest (8 + l.from - l.at) l.last l.at
