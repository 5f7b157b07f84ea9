-- The numbers before the entries: those pushed so far, with what is still to come behind them.
use mathlib.Core.Path.{◌≡◌}
use mathlib.Core.List.{List, [], ◌∷◌, ◌++◌, map, foldr}
use Prim.Native.Nat.{ℕ, ◌+◌, ◌*◌, ◌≤◌}
use lib.ListN.{length, drop}
use Rattle.rules.proofs.Trip.{release_numbers}
use Rattle.round.specs.declared.Release.{Release}
use Rattle.round.specs.declared.Round.{Round}
use Rattle.round.specs.Round.{release_of}
use Rattle.writer.specs.Writing.{head_numbers}
use Rattle.writer.proofs.head.Given as goal

pub record Inv (q : Round) (xs : List Release) (ns : List ℕ) (i : ℕ) : Type 0 where
  pub few : length xs ≤ 64
  pub to : i ≤ length xs
  pub many : length ns ≡ 2 + 2 * i
  pub to_do : head_numbers q ≡ ns ++ foldr release_numbers (q.entered ∷ []) (map release_of (drop i xs))

abbrev pub invariant-loop-x : goal.invariant-loop-x
invariant-loop-x l = Inv l.fn.q l.x-items l.numbers l.x-index
