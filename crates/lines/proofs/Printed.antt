-- The lines as the rules print them, from what a caller has in hand.
use mathlib.Core.Path.{◌≡◌, refl}
use mathlib.Core.List.{List}
use Prim.Native.Nat.{ℕ}
use Rattle.rules.specs.Common.{Common, L}
use Rattle.rules.specs.Session.{printed, round}
use Rattle.lines.specs.Lines.{numbers_text, round_text}

pub round_printed : (r : ℕ) (c : Common) (classes : List ℕ) → printed (round r c classes) ≡ round_text r c.O c.B (L c) c.W classes
unfolding printed round_text numbers_text
round_printed r c classes = refl
