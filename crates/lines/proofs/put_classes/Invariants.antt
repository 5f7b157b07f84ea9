-- The classes put in one by one, a digit each.
use mathlib.Core.List.{map}
use Prim.Native.Nat.{◌+◌}
use lib.ListN.{take}
use Rattle.lines.specs.Text.{Put}
use Rattle.lines.proofs.put_classes.Given as goal

abbrev pub invariant-loop-k : goal.invariant-loop-k
invariant-loop-k l = Put l.initial.buf l.from (map (λ d. 48 + d) (take l.k l.classes)) l.buf (l.from + l.k)
