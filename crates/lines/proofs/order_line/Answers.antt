-- The word, the jobs, and the end of the line.
use mathlib.Core.Path.{◌≡◌}
use mathlib.Core.List.{List}
use Prim.Native.Nat.{ℕ, ◌*◌, ◌≤◌}
use native.Mathlib.Omega.{arith}
use lib.ListN.{length, take, length-take}
use Rattle.rules.specs.Session.{printed, order, ascii, jobs_from}
use Rattle.lines.specs.Text.{Put, PutWithin, Front}
use Rattle.lines.specs.Lines.{jobs_of}
use Rattle.lines.proofs.Putting.{put_then, put_front}
use Rattle.lines.proofs.order_line.Goals as goal

line_put : {s s₁ s₂ s₃ : List ℕ} {at at' end : ℕ} (p : ℕ) (ts : List ℕ) → Put s 0 (ascii "order") s₁ at → PutWithin (25 * length ts) s₁ at (jobs_from p (jobs_of ts)) s₂ at'
    → Put s₂ at' (ascii "\n") s₃ end → length ts ≤ 256 → length s ≡ 8192 → Front s (printed (order p (jobs_of ts))) s₃ end
unfolding printed ascii
line_put p ts o j e few l = put_front (put_then (put_then o j.put) e) (omega (arith, o.place, j.near, e.place))

pub returns : goal.returns
unfolding ascii
returns c =
    let few : length (take c.args.count c.args.tasks.now) ≤ 256 = rw length-take (omega arith) in
    search line_put
