-- The digits put in from the last: the last ones of the rest are still to be put before them.
use mathlib.Core.Path.{◌≡◌}
use Prim.Native.Nat.{◌-◌}
use lib.Seq.{sets}
use Rattle.rules.specs.Session.{decimal}
use Rattle.lines.proofs.Decimal.{last_digits}
use Rattle.lines.proofs.text.put_decimal.Given as goal

abbrev pub invariant-loop-at : goal.invariant-loop-at
invariant-loop-at l = sets l.initial.buf l.from (decimal l.n) ≡ sets l.buf l.from (last_digits (l.at - l.from) l.rest)
