-- P11, P12 and the numbers that document 01 writes out, of whatever the contracts admit: by computation.
use mathlib.Core.Path.{◌≡◌, refl, ◌∙◌}
use mathlib.Core.List.{List, [], ◌∷◌}
use Prim.Native.Nat.{ℕ}
use lib.ListN.{drop}
use Rattle.rules.specs.All.{all}
use Rattle.rules.specs.Numbers.{number}
use Rattle.rules.specs.Written.{write_number}
use Rattle.std.specs.Prelude.{Result, Ok, Err}
use Rattle.refusal.specs.declared.Refusal.{Refusal}
use Rattle.refusal.specs.declared.Refusal.TheVariants.{BytesEnd, BadNumber}
use Rattle.refusal.specs.Refusal.{answer_of}
use Rattle.refusal.proofs.Same.{answer_same}
use Rattle.number.specs.Numbers.{number_read, left_from}

-- "80 00 is refused 19"
pub P11 : {r : Result (ℕ × ℕ) Refusal} → answer_of r ≡ number_read (0x80 ∷ 0x00 ∷ []) (number (drop 0 (0x80 ∷ 0x00 ∷ []))) → r ≡ Err BadNumber
unfolding all
P11 e = answer_same (e ∙ refl)

-- "The empty byte string is refused 18"
pub P12 : {r : Result (ℕ × ℕ) Refusal} → answer_of r ≡ number_read [] (number (drop 0 [])) → r ≡ Err BytesEnd
unfolding all
P12 e = answer_same (e ∙ refl)

-- "400 is 90 03", read at a place, with the place past it
pub read_400 : {r : Result (ℕ × ℕ) Refusal} → answer_of r ≡ number_read (0x7F ∷ 0x90 ∷ 0x03 ∷ 0xFF ∷ []) (number (drop 1 (0x7F ∷ 0x90 ∷ 0x03 ∷ 0xFF ∷ []))) → r ≡ Ok (400, 3)
unfolding all
read_400 e = answer_same (e ∙ refl)

-- "128 is 80 01", written at a place: the other bytes stay
pub write_128 : {left : List ℕ} → left ≡ left_from 1 (7 ∷ 7 ∷ 7 ∷ 7 ∷ []) (write_number 128 (drop 1 (7 ∷ 7 ∷ 7 ∷ 7 ∷ []))) → left ≡ 7 ∷ 0x80 ∷ 0x01 ∷ 7 ∷ []
unfolding all
write_128 e = e ∙ refl
