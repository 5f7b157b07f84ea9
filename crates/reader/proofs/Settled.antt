-- Any two replies that a contract admits coincide.
use mathlib.Core.Path.{◌≡◌}
use mathlib.Core.List.{List}
use Prim.Native.Nat.{ℕ}
use lib.ListN.{drop}
use Rattle.std.specs.Prelude.{Result}
use Rattle.refusal.specs.declared.Refusal.{Refusal}
use Rattle.refusal.specs.Refusal.{answer_of}
use Rattle.refusal.proofs.Same.{settled}
use Rattle.round.specs.declared.Round.{Round}
use Rattle.reader.specs.Records.{within_read, record_read, record_from}

pub read_within_settled :
    (bytes : List ℕ) (from releases entries : ℕ) {r s : Result (Round × ℕ) Refusal} → answer_of r ≡ within_read releases entries (drop from bytes) →
    answer_of s ≡ within_read releases entries (drop from bytes) → r ≡ s
read_within_settled bytes from releases entries e d = settled e d

pub read_record_settled :
    (bytes : List ℕ) (from : ℕ) {r s : Result (Round × ℕ) Refusal} → answer_of r ≡ record_read (record_from (drop from bytes)) →
    answer_of s ≡ record_read (record_from (drop from bytes)) → r ≡ s
read_record_settled bytes from e d = settled e d
