-- All numbers of a record: those so far, with those of the entries still to come behind them.
use mathlib.Core.Path.{◌≡◌}
use mathlib.Core.List.{List, [], ◌++◌, map, foldr}
use Prim.Native.Nat.{ℕ, ◌+◌, ◌-◌, ◌*◌, ◌≤◌}
use lib.ListN.{length, drop}
use Rattle.std.specs.Prelude as code
use Rattle.rules.specs.Written.{entry_numbers, numbers_of}
use Rattle.round.specs.declared.Report.{Report}
use Rattle.round.specs.declared.Round.{Round}
use Rattle.round.specs.Round.{entry_of, round_of}
use Rattle.writer.proofs.record_numbers.Given as goal

pub record Inv (q : Round) (es : List (code.Option Report)) (ns : List ℕ) (i : ℕ) : Type 0 where
  pub room : length ns + 4 * (length es - i) ≤ 191
  pub to_do : numbers_of (round_of q) ≡ ns ++ foldr entry_numbers [] (map entry_of (drop i es))

abbrev pub invariant-loop-e : goal.invariant-loop-e
invariant-loop-e l = Inv l.fn.q l.e-items l.numbers l.e-index
