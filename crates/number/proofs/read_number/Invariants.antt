-- The number reader's loop. The groups read so far make `value`, and the number is what the groups behind them make on top of them, at `scale`.
use mathlib.Core.Path.{◌≡◌}
use mathlib.Core.List.{List}
use Prim.Native.Nat.{ℕ, ◌+◌, ◌*◌, ◌^◌, ◌≤◌, ◌<◌}
use lib.ListN.{length, drop}
use Rattle.rules.specs.Answer.{refused}
use Rattle.rules.specs.Numbers.{number, groups_after}
use Rattle.number.proofs.Groups.{on_top}
use Rattle.number.proofs.read_number.Given as goal

pub record Inv (s : List ℕ) (from value scale before : ℕ) : Type 0 where
  pub place : 0 < before → from + before ≤ length s
  pub scaled : scale ≡ 2 ^ (7 * before)
  pub below : value < scale
  pub to_do : before < 9 → number (drop from s) ≡ on_top value scale (groups_after before (drop (from + before) s))
  pub over : 9 ≤ before → number (drop from s) ≡ refused 19

abbrev pub invariant-loop-before : goal.invariant-loop-before
invariant-loop-before l = Inv l.bytes l.from l.value l.scale l.before
