-- Small lists, by computation: what is read of them, which refusal comes first, and what is put.
use mathlib.Core.Path.{◌≡◌, refl, ap, ◌∙◌}
use mathlib.Core.Option.{none, some}
use mathlib.Core.List.{[], ◌∷◌}
use lib.ListN.{replicate}
use Rattle.laws.specs.Search.{lowest}
use Rattle.laws.specs.Lists.{rows, over}
use Rattle.rules.specs.Answer.{done, refused}
use Rattle.rules.proofs.Answers.{same_done, refused≢done}
use Rattle.std.specs.Prelude.{Result, Ok, Err, IsOkAnd}
use Rattle.refusal.specs.declared.Refusal.{Refusal}
use Rattle.refusal.specs.declared.Refusal.TheVariants.{WrongLength}
use Rattle.refusal.specs.Refusal.{answer_of}
use Rattle.refusal.proofs.Same.{answer_same}
use Rattle.round.specs.declared.Round.{Round}
use Rattle.lists.specs.Lists.{releases_at, wrong_mark, entries_at, round_at, told_round, release_words, entry_words}

pub two_releases : releases_at (7 ∷ 0 ∷ 2 ∷ 1 ∷ []) ≡ done (record { task_of = 7; delay = 0 } ∷ record { task_of = 2; delay = 1 } ∷ [])
unfolding releases_at rows
two_releases = refl

pub half_a_release : releases_at (7 ∷ 0 ∷ 2 ∷ []) ≡ refused 100
unfolding releases_at
half_a_release = refl

-- the words behind a mark of 0 are not looked at
pub two_entries : entries_at (0 ∷ 9 ∷ 9 ∷ 9 ∷ 1 ∷ 3 ∷ 45 ∷ 2 ∷ []) ≡ done (none ∷ some (record { progress = 3; completed = 45; run = 2 }) ∷ [])
unfolding entries_at wrong_mark lowest rows
two_entries = refl

pub mark_of_two : entries_at (0 ∷ 9 ∷ 9 ∷ 9 ∷ 2 ∷ 3 ∷ 45 ∷ 1 ∷ []) ≡ refused 103
unfolding entries_at wrong_mark lowest
mark_of_two = refl

-- the length before what an array holds
pub length_first : entries_at (2 ∷ 3 ∷ 45 ∷ []) ≡ refused 100
unfolding entries_at
length_first = refl

-- releases before entries
pub releases_first : {r : Result Round Refusal} → answer_of r ≡ told_round (round_at 5 (7 ∷ []) (2 ∷ 3 ∷ 45 ∷ 1 ∷ [])) → r ≡ Err WrongLength
unfolding round_at releases_at
releases_first e = answer_same (e ∙ refl)

-- 65 releases and 16 entries are taken in as so many, though there are places for 64 and 15
pub sixty_five : (r : Result Round Refusal) → answer_of r ≡ told_round (round_at 5 (replicate 130 0) (replicate 64 0)) → IsOkAnd r (λ q. (q.listed ≡ 65) × (q.entered ≡ 16))
unfolding round_at releases_at entries_at wrong_mark lowest rows
sixty_five (Ok q) e = let h = same_done e in (ap (λ (x : Round). x.listed) h, ap (λ (x : Round). x.entered) h)
sixty_five (Err n) e = refused≢done e

-- "places past the count stay as they were"
pub put_one : over (release_words (record { task_of = 7; delay = 1 } ∷ [])) (4 ∷ 4 ∷ 4 ∷ 4 ∷ []) ≡ 7 ∷ 1 ∷ 4 ∷ 4 ∷ []
put_one = refl

pub put_missing : over (entry_words (some (record { progress = 3; completed = 45; run = 0 }) ∷ none ∷ [])) (replicate 10 9) ≡ 1 ∷ 3 ∷ 45 ∷ 0 ∷ 0 ∷ 0 ∷ 0 ∷ 0 ∷ 9 ∷ 9 ∷ []
put_missing = refl
