-- The numbers, the classes, and the end of the line.
use mathlib.Core.Path.{◌≡◌}
use mathlib.Core.List.{List, map}
use Prim.Native.Nat.{ℕ, ◌+◌, ◌≤◌}
use native.Mathlib.Omega.{arith}
use lib.ListN.{length, take, length-take, length-map}
use Rattle.rules.specs.Session.{ascii}
use Rattle.lines.specs.Text.{Put, PutWithin, Front}
use Rattle.lines.specs.Lines.{numbers_text, round_text}
use Rattle.lines.proofs.Putting.{put_then, put_front}
use Rattle.lines.proofs.round_line.Goals as goal

line_put : {s s₁ s₂ s₃ s₄ : List ℕ} {a₁ a₂ a₃ end : ℕ} (r O B L W : ℕ) (classes : List ℕ) → PutWithin 130 s 0 (numbers_text r O B L W) s₁ a₁ → Put s₁ a₁ (ascii " nodes ") s₂ a₂
    → Put s₂ a₂ (map (λ d. 48 + d) classes) s₃ a₃ → Put s₃ a₃ (ascii "\n") s₄ end → length classes ≤ 15 → length s ≡ 8192 → Front s (round_text r O B L W classes) s₄ end
unfolding round_text ascii
line_put r O B L W classes p q u v few l =
    put_front (put_then (put_then (put_then p.put q) u) v) (omega (arith, p.near, q.place, u.place, length-map classes (λ d. 48 + d), v.place))

pub returns : goal.returns
unfolding ascii
returns c =
    let few : length (take c.args.m c.args.classes.now) ≤ 15 = rw length-take (omega arith) in
    search line_put
