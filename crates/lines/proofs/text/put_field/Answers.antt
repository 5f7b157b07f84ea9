-- A word and its number, one behind the other.
use mathlib.Core.List.{List, ◌++◌}
use Prim.Native.Nat.{ℕ, ◌+◌, ◌^◌, ◌≤◌, ◌<◌}
use native.Mathlib.Omega.{arith}
use lib.ListN.{length}
use Rattle.rules.specs.Session.{decimal}
use Rattle.lines.specs.Text.{Put, PutWithin}
use Rattle.lines.proofs.Putting.{put_long, put_then}
use Rattle.lines.proofs.Decimal.{length_decimal}
use Rattle.lines.proofs.text.put_field.Goals as goal

module _ {s word s' : List ℕ} {from next : ℕ} (n : ℕ) (b : n < 2 ^ 64) (p : Put s from word s' next) where
  number_fits : from + (length word + 20) ≤ length s → next + length (decimal n) ≤ length s'
  number_fits h = omega (arith, length_decimal 19 n (omega arith), p.place, put_long p)

  both_put : {s'' : List ℕ} {end : ℕ} → Put s' next (decimal n) s'' end → PutWithin (length word + 20) s from (word ++ decimal n) s'' end
  both_put q = record { put = put_then p q; near = omega (arith, length_decimal 19 n (omega arith), p.place, q.place) }

pub put_decimal-requires : goal.put_decimal-requires
put_decimal-requires c = search number_fits

pub returns : goal.returns
returns c = search both_put
