-- Any two replies that a contract admits coincide.
use mathlib.Core.Path.{◌≡◌, sym, ◌∙◌}
use mathlib.Core.List.{List}
use Prim.Native.Nat.{ℕ}
use Rattle.laws.specs.Lists.{over}
use Rattle.round.specs.declared.Round.{Round}
use Rattle.round.specs.Round.{releases_of, entries_of}
use Rattle.std.specs.Prelude.{Result}
use Rattle.refusal.specs.declared.Refusal.{Refusal}
use Rattle.refusal.specs.Refusal.{answer_of}
use Rattle.refusal.proofs.Same.{settled}
use Rattle.lists.specs.Lists.{round_at, told_round, release_words, entry_words}

pub round_in_settled : (time : ℕ) (releases entries : List ℕ) {r s : Result Round Refusal} → answer_of r ≡ told_round (round_at time releases entries) → answer_of s ≡ told_round (round_at time releases entries) → r ≡ s
round_in_settled time releases entries e d = settled e d

pub put_releases_settled : (words : List ℕ) (q : Round) {a b : List ℕ} → a ≡ over (release_words (releases_of q)) words → b ≡ over (release_words (releases_of q)) words → a ≡ b
put_releases_settled words q e d = e ∙ sym d

pub put_entries_settled : (words : List ℕ) (q : Round) {a b : List ℕ} → a ≡ over (entry_words (entries_of q)) words → b ≡ over (entry_words (entries_of q)) words → a ≡ b
put_entries_settled words q e d = e ∙ sym d
