-- P12 of a record, and where two refusals meet, of whatever the contracts admit: by computation.
use mathlib.Core.Path.{◌≡◌, refl, ◌∙◌}
use mathlib.Core.Option.{none}
use mathlib.Core.List.{[], ◌∷◌}
use lib.ListN.{drop}
use Rattle.rules.specs.All.{all}
use Prim.Native.Nat.{ℕ}
use Rattle.std.specs.Prelude.{Result, Ok, Err}
use Rattle.refusal.specs.declared.Refusal.{Refusal}
use Rattle.refusal.specs.declared.Refusal.TheVariants.{IllFormed, BytesEnd, BadNumber, NoRoom}
use Rattle.refusal.specs.Refusal.{answer_of}
use Rattle.refusal.proofs.Same.{answer_same}
use Rattle.round.specs.declared.Round.{Round}
use Rattle.round.specs.Round.{round_as}
use Rattle.reader.specs.Records.{within_read, record_read, record_from}

-- "The empty byte string is refused 18"
pub P12_record : {r : Result (Round × ℕ) Refusal} → answer_of r ≡ record_read (record_from (drop 0 [])) → r ≡ Err BytesEnd
unfolding all
P12_record e = answer_same (e ∙ refl)

-- "a count of releases over 64 gives 15 as soon as it is met", before the fault in the byte that follows
pub count_65 : {r : Result (Round × ℕ) Refusal} → answer_of r ≡ record_read (record_from (drop 0 (0 ∷ 65 ∷ 0x80 ∷ 0 ∷ []))) → r ≡ Err IllFormed
unfolding all
count_65 e = answer_same (e ∙ refl)

-- "shorter than a count just read, that is 21 there", before the fault in the byte that follows; "after that count's 15"
pub room_1 : {r : Result (Round × ℕ) Refusal} → answer_of r ≡ within_read 1 15 (drop 0 (0 ∷ 2 ∷ 0x80 ∷ 0 ∷ [])) → r ≡ Err NoRoom
unfolding all
room_1 e = answer_same (e ∙ refl)

pub count_65_room_1 : {r : Result (Round × ℕ) Refusal} → answer_of r ≡ within_read 1 15 (drop 0 (0 ∷ 65 ∷ 0x80 ∷ 0 ∷ [])) → r ≡ Err IllFormed
unfolding all
count_65_room_1 e = answer_same (e ∙ refl)

-- the releases are read before the count of entries is: their fault comes before its 21
pub fault_first : {r : Result (Round × ℕ) Refusal} → answer_of r ≡ within_read 1 0 (drop 0 (0 ∷ 1 ∷ 0x80 ∷ 0 ∷ 0 ∷ 1 ∷ [])) → r ≡ Err BadNumber
unfolding all
fault_first e = answer_same (e ∙ refl)

-- each count has the room of its own list, and "a missing entry carries no numbers": one release and two entries
pub own_rooms : {r : Result (Round × ℕ) Refusal} → answer_of r ≡ within_read 1 2 (drop 0 (9 ∷ 1 ∷ 5 ∷ 0 ∷ 2 ∷ 0 ∷ 0 ∷ [])) → r ≡ Ok (round_as (record { r = 9; releases = record { task_of = 5; delay = 0 } ∷ []; entries = none ∷ none ∷ [] }), 7)
unfolding all
own_rooms e = answer_same (e ∙ refl)

pub others_room : {r : Result (Round × ℕ) Refusal} → answer_of r ≡ within_read 2 1 (drop 0 (9 ∷ 1 ∷ 5 ∷ 0 ∷ 2 ∷ 0 ∷ 0 ∷ [])) → r ≡ Err NoRoom
unfolding all
others_room e = answer_same (e ∙ refl)
