-- Numbers and records as bytes: from what the writers told to what the doors say.
use mathlib.Core.Path.{◌≡◌, refl, sym, ap, ◌∙◌}
use mathlib.Core.Bool.{◌||◌}
use mathlib.Core.List.{List}
use Prim.Native.Nat.{ℕ, ◌^◌}
use lib.ListN.{length, drop}
use Rattle.laws.specs.Tests.{◌<?◌, ◌≤?◌}
use Rattle.laws.specs.Lists.{over}
use Rattle.rules.specs.Answer.{Answer, done, refused, refused_by}
use Rattle.rules.specs.Judge as rules
use Rattle.rules.specs.Numbers.{number_bytes}
use Rattle.rules.specs.Written.{Wrote, numbers_of, too_large, record_bytes, put, write_number, write_record}
use Rattle.round.specs.declared.Round.{Round}
use Rattle.round.specs.Round.{round_of}
use Rattle.number.specs.Numbers.{written_of, left_from}
use Rattle.lists.specs.Lists.{round_at, told_round}
use Rattle.lists.proofs.Cut.{write_cut}
use Rattle.cabinet.specs.Replies.{replied, left, named}
use Rattle.cabinet.specs.Records.{write_record_door}
use Rattle.cabinet.proofs.Plain.{Plain, plain_done, plain_if}
use Rattle.cabinet.proofs.Rounds.{round_found, round_stopped}

plain_put : (bs lent : List ℕ) → Plain (put bs lent)
plain_put bs lent = plain_if 21 (length lent <? length bs) (plain_done (record { buffer = over bs lent; bytes = length bs }))

-- a writing from the first byte on
module _ (lent : List ℕ) where
  plain_number : (v : ℕ) → Plain (write_number v lent)
  unfolding write_number
  plain_number v = plain_if 22 (2 ^ 63 ≤? v) (plain_put (number_bytes v) lent)

  plain_record : (q : rules.Round) → Plain (write_record q lent)
  unfolding write_record
  plain_record q =
      plain_if 15 ((64 <? length q.releases) || (15 <? length q.entries))
      (plain_if 22 (too_large (numbers_of q)) (plain_put (record_bytes q) lent))

  told_so : (a : Answer Wrote) → Plain a → (written_of a ≡ named (λ w. w.bytes) a) × (left_from 0 lent a ≡ left (λ w. w.buffer) lent a)
  told_so (done w) p = (refl, refl)
  told_so (refused n) p = (refl, refl)
  told_so (refused_by n i) p = absurd (p.unnamed n i refl)

  replied_so : (a : Answer Wrote) → replied (λ k. k) (named (λ w. w.bytes) a) ≡ replied (λ w. w.bytes) a
  replied_so (done w) = refl
  replied_so (refused n) = refl
  replied_so (refused_by n i) = refl

  pub number_wrote : (v : ℕ) {w : Answer ℕ} → w ≡ written_of (write_number v (drop 0 lent)) → replied (λ k. k) w ≡ replied (λ w. w.bytes) (write_number v lent)
  number_wrote v e = ap (replied (λ k. k)) (e ∙ (told_so (write_number v lent) (plain_number v)).0) ∙ replied_so (write_number v lent)

  module _ (r : ℕ) (ws vs : List ℕ) where
    abbrev Writes : Answer ℕ → List ℕ → Type 0
    Writes w after =
        (w ≡ named (λ w. w.bytes) (write_record_door lent r ws vs)) × (after ≡ left (λ w. w.buffer) lent (write_record_door lent r ws vs))

    pub record_not_listed : {n : ℕ} → refused n ≡ told_round (round_at r ws vs) → Writes (refused n) lent
    unfolding write_record_door
    record_not_listed d =
        let e = round_stopped r ws vs d in
        (rw e, rw e)

    at_writing : {x : Round} → done x ≡ told_round (round_at r ws vs) → write_record_door lent r ws vs ≡ write_record (round_of x) lent
    unfolding write_record_door
    at_writing d =
        let f = round_found r ws vs d in
        rw f.1 (sym (ap (λ (k : Round). write_record (round_of k) lent) f.2 ∙ write_cut f.0 lent))

    pub record_wrote : {x : Round} → done x ≡ told_round (round_at r ws vs) → {w : Answer ℕ} {after : List ℕ} → w ≡ written_of (write_record (round_of x) lent)
        → after ≡ left_from 0 lent (write_record (round_of x) lent) → Writes w after
    record_wrote {x} d e f =
        let o = told_so (write_record (round_of x) lent) (plain_record (round_of x)) in
        rw (at_writing d) (e ∙ o.0, f ∙ o.1)
