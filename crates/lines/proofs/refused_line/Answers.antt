-- The word and its number, and the end of the line.
use mathlib.Core.Path.{◌≡◌}
use mathlib.Core.List.{List, ◌++◌}
use Prim.Native.Nat.{ℕ, ◌≤◌}
use native.Mathlib.Omega.{arith}
use lib.ListN.{length}
use Rattle.rules.specs.Session.{printed, refusal, ascii, decimal}
use Rattle.lines.specs.Text.{Put, Front}
use Rattle.lines.proofs.Putting.{put_then, put_front}
use Rattle.lines.proofs.refused_line.Goals as goal

line_put : {s s' s'' : List ℕ} {at end : ℕ} (n : ℕ) → Put s 0 (ascii "refused " ++ decimal n) s' at → Put s' at (ascii "\n") s'' end → at ≤ 28 → length s ≡ 8192
    → Front s (printed (refusal n)) s'' end
unfolding printed ascii
line_put n p q b l = put_front (put_then p q) (omega (arith, q.place))

pub returns : goal.returns
unfolding ascii
returns c = search line_put
