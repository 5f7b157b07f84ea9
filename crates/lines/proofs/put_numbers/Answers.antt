-- Five words, each with its number.
use mathlib.Core.List.{List, ◌++◌}
use Prim.Native.Nat.{ℕ}
use native.Mathlib.Omega.{arith}
use Rattle.rules.specs.Session.{ascii, decimal}
use Rattle.lines.specs.Text.{PutWithin}
use Rattle.lines.specs.Lines.{numbers_text}
use Rattle.lines.proofs.Putting.{put_behind}
use Rattle.lines.proofs.put_numbers.Goals as goal

module _ {s s₁ s₂ s₃ s₄ s₅ : List ℕ} {a₁ a₂ a₃ a₄ end : ℕ} (r O B L W : ℕ) where
  all_put : PutWithin 26 s 0 (ascii "round " ++ decimal r) s₁ a₁ → PutWithin 25 s₁ a₁ (ascii " ipo " ++ decimal O) s₂ a₂ → PutWithin 26 s₂ a₂ (ascii " base " ++ decimal B) s₃ a₃
      → PutWithin 28 s₃ a₃ (ascii " length " ++ decimal L) s₄ a₄ → PutWithin 25 s₄ a₄ (ascii " toc " ++ decimal W) s₅ end
      → PutWithin 130 s 0 (numbers_text r O B L W) s₅ end
  unfolding numbers_text ascii
  all_put p q u v w = record {
    put =
        put_behind (ascii " toc ") (decimal W)
        (put_behind (ascii " length ") (decimal L)
        (put_behind (ascii " base ") (decimal B) (put_behind (ascii " ipo ") (decimal O) p.put q.put) u.put) v.put) w.put;
    near = omega (arith, p.near, q.near, u.near, v.near, w.near);
  }

pub returns : goal.returns
unfolding ascii
returns c = search all_put
