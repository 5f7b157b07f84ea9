-- Any two replies that a contract admits coincide, and so do the end contents of lent bytes.
use mathlib.Core.Path.{◌≡◌, sym, ◌∙◌}
use mathlib.Core.List.{List}
use Prim.Native.Nat.{ℕ, ◌+◌, ◌≤◌}
use lib.ListN.{length, drop}
use lib.Seq.{sets}
use Rattle.rules.specs.Numbers.{number, number_bytes}
use Rattle.rules.specs.Written.{write_number}
use Rattle.std.specs.Prelude.{Result}
use Rattle.refusal.specs.declared.Refusal.{Refusal}
use Rattle.refusal.specs.Refusal.{answer_of}
use Rattle.refusal.proofs.Same.{settled}
use Rattle.number.specs.Numbers.{number_read, written_of, left_from}

pub read_number_settled :
    (bytes : List ℕ) (from : ℕ) {r s : Result (ℕ × ℕ) Refusal} → answer_of r ≡ number_read bytes (number (drop from bytes))
    → answer_of s ≡ number_read bytes (number (drop from bytes)) → r ≡ s
read_number_settled bytes from e d = settled e d

-- what a writer answers and leaves
pub record NumberWritten (bytes : List ℕ) (from value : ℕ) (r : Result ℕ Refusal) (left : List ℕ) : Type 0 where
  pub reply : answer_of r ≡ written_of (write_number value (drop from bytes))
  pub exit : left ≡ left_from from bytes (write_number value (drop from bytes))

pub write_number_settled :
    {bytes : List ℕ} {from value : ℕ} {r s : Result ℕ Refusal} {a b : List ℕ} → NumberWritten bytes from value r a → NumberWritten bytes from value s b → (r ≡ s) × (a ≡ b)
write_number_settled e d = (settled e.reply d.reply, e.exit ∙ sym d.exit)

-- what the writers of records stand on
pub number_size_settled :
    (value : ℕ) {r s : ℕ} → (r ≡ length (number_bytes value)) × (r ≤ 9) → (s ≡ length (number_bytes value)) × (s ≤ 9) → r ≡ s
number_size_settled value e d = e.0 ∙ sym d.0

pub record NumberPut (bytes : List ℕ) (from value r : ℕ) (left : List ℕ) : Type 0 where
  pub reply : r ≡ from + length (number_bytes value)
  pub exit : left ≡ sets bytes from (number_bytes value)

pub put_number_settled : {bytes : List ℕ} {from value r s : ℕ} {a b : List ℕ} → NumberPut bytes from value r a → NumberPut bytes from value s b → (r ≡ s) × (a ≡ b)
put_number_settled e d = (e.reply ∙ sym d.reply, e.exit ∙ sym d.exit)
