-- Any two replies that a contract admits coincide, and so do the end contents of lent words.
use mathlib.Core.Path.{◌≡◌, sym, ◌∙◌}
use mathlib.Core.List.{List}
use Prim.Native.Nat.{ℕ}
use lib.ListN.{take, drop}
use lib.Seq.{sets}
use Rattle.table.specs.declared.Table.{Table}
use Rattle.std.specs.Prelude.{Result}
use Rattle.refusal.specs.declared.Refusal.{Refusal}
use Rattle.refusal.specs.Refusal.{answer_of}
use Rattle.refusal.proofs.Same.{settled}
use Rattle.words.specs.Table.{table_words, table_in, table_at}

-- n words, or n bytes, copied out
pub copied_settled : (n : ℕ) (words : List ℕ) (from : ℕ) {r s : List ℕ} → r ≡ take n (drop from words) → s ≡ take n (drop from words) → r ≡ s
copied_settled n words from e d = e ∙ sym d

-- and copied in
pub put_settled : (words : List ℕ) (from : ℕ) (block : List ℕ) {a b : List ℕ} → a ≡ sets words from block → b ≡ sets words from block → a ≡ b
put_settled words from block e d = e ∙ sym d

pub table_of_settled : (words : List ℕ) {r s : Table} → r ≡ table_in words → s ≡ table_in words → r ≡ s
table_of_settled words e d = e ∙ sym d

pub table_in_settled : (words : List ℕ) {r s : Result Table Refusal} → answer_of r ≡ table_at words → answer_of s ≡ table_at words → r ≡ s
table_in_settled words e d = settled e d

pub put_table_settled : (t : Table) {a b : List ℕ} → a ≡ table_words t → b ≡ table_words t → a ≡ b
put_table_settled t e d = e ∙ sym d
