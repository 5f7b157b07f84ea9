-- Any two replies that a contract admits coincide, and so do the end contents of lent bytes.
use mathlib.Core.Path.{◌≡◌, sym, ◌∙◌}
use mathlib.Core.List.{List}
use Rattle.std.specs.Prelude.{Result}
use Prim.Native.Nat.{ℕ}
use Rattle.rules.specs.Written.{write_record}
use Rattle.round.specs.declared.Round.{Round}
use Rattle.round.specs.Round.{round_of}
use Rattle.refusal.specs.declared.Refusal.{Refusal}
use Rattle.refusal.specs.Refusal.{answer_of}
use Rattle.refusal.proofs.Same.{settled}
use Rattle.number.specs.Numbers.{written_of, left_from}

-- what the writer answers and leaves
pub record RecordWritten (bytes : List ℕ) (q : Round) (r : Result ℕ Refusal) (left : List ℕ) : Type 0 where
  pub reply : answer_of r ≡ written_of (write_record (round_of q) bytes)
  pub exit : left ≡ left_from 0 bytes (write_record (round_of q) bytes)

pub write_record_settled : {bytes : List ℕ} {q : Round} {r s : Result ℕ Refusal} {a b : List ℕ} → RecordWritten bytes q r a → RecordWritten bytes q s b → (r ≡ s) × (a ≡ b)
write_record_settled e d = (settled e.reply d.reply, e.exit ∙ sym d.exit)
