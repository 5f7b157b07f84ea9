-- From what is told of a record back to its reading: the record that was read with the bytes behind it, or the refusal.
use mathlib.Core.Path.{◌≡◌, refl, sym, ap, ◌∙◌}
use mathlib.Core.List.{List}
use Prim.Native.Nat.{ℕ, ◌-◌}
use lib.ListN.{length}
use Rattle.rules.specs.Answer.{Answer, done, refused}
use Rattle.rules.specs.Judge as rules
use Rattle.rules.specs.Numbers.{Read}
use Rattle.rules.specs.Written.{read_record}
use Rattle.rules.proofs.Reading.{Gives, so, stop}
use Rattle.round.specs.declared.Round.{Round}
use Rattle.round.specs.Round.{round_of, round_as}
use Rattle.round.proofs.Same.{round_there}
use Rattle.number.specs.Numbers.{placed}
use Rattle.refusal.proofs.Answers.{done_same, done_refused, refused_same}
use Rattle.reader.specs.Records.{within_read}
use Rattle.reader.proofs.Counts.{Few, record_few}

pub record Given (j k : ℕ) (s : List ℕ) (q : Round) (used : ℕ) : Type 0 where
  pub what : Read rules.Round
  pub is : read_record j k s ≡ done what
  pub holds : q ≡ round_as what.value
  pub used_is : used ≡ length s - length what.rest
  pub few : Few j k what.value

-- the round by value stands for the record
pub given_stands : {j k : ℕ} {s : List ℕ} {q : Round} {used : ℕ} (v : Given j k s q used) → round_of q ≡ v.what.value
given_stands v = ap round_of v.holds ∙ round_there v.what.value v.few.listed.few v.few.entered.few

module _ (j k : ℕ) (s : List ℕ) where
  given_by : {a : Answer (Read rules.Round)} → Gives (λ (x : Read rules.Round). Few j k x.value) a → read_record j k s ≡ a
      → {q : Round} {used : ℕ} → done (q, used) ≡ placed round_as s a → Given j k s q used
  given_by (so {a = x} l) e p =
      let h = done_same p in
      record { what = x; is = e; holds = ap (λ (z : Round × ℕ). z.0) h; used_is = ap (λ (z : Round × ℕ). z.1) h; few = l }
  given_by stop e p = absurd (done_refused p)

  refused_by_fault : {a : Answer (Read rules.Round)} → Gives (λ (x : Read rules.Round). Few j k x.value) a → {n : ℕ} → refused n ≡ placed round_as s a → a ≡ refused n
  refused_by_fault (so l) p = absurd (done_refused (sym p))
  refused_by_fault stop p = ap refused (sym (refused_same p))

  pub record_given : {q : Round} {used : ℕ} → done (q, used) ≡ within_read j k s → Given j k s q used
  record_given = given_by (record_few j k s) refl

  pub record_refused : {n : ℕ} → refused n ≡ within_read j k s → read_record j k s ≡ refused n
  record_refused = refused_by_fault (record_few j k s)
