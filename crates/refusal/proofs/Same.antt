-- No two refusals have one number, so that what is answered in the words of the rules settles what a call by value answers.
use Rattle.std.specs.Prelude.{◌≡◌, Result, Ok, Err, ℕ, IsErrAnd, if◌then◌else◌}
use Rattle.std.proofs.lemmas.Result.{err_from_is_err_and}
use mathlib.Core.Path.{refl, sym, ap, ◌∙◌}
use Rattle.laws.specs.Tests.{◌=?◌}
use Rattle.rules.specs.Answer.{Answer, done, refused, refused_by}
use Rattle.refusal.specs.declared.Refusal.{Refusal}
use Rattle.refusal.specs.declared.Refusal.TheVariants as refusal
use Rattle.refusal.specs.Refusal.{number_of, answer_of}

-- The refusal of a number, where there is one.
pub refusal_at : ℕ → Refusal
refusal_at n =
    if n =? 1 then refusal.OutOfRange
    else if n =? 2 then refusal.RuleBroken
    else if n =? 3 then refusal.TimeTooLarge
    else if n =? 4 then refusal.TimeGoesBack
    else if n =? 5 then refusal.LeftBehind
    else if n =? 6 then refusal.AlreadyRunning
    else if n =? 7 then refusal.NoJobLeft
    else if n =? 8 then refusal.BeyondLock
    else if n =? 10 then refusal.NothingRunning
    else if n =? 11 then refusal.RoundOpen
    else if n =? 12 then refusal.OtherRound
    else if n =? 13 then refusal.NotAsSent
    else if n =? 14 then refusal.TooSoon
    else if n =? 15 then refusal.IllFormed
    else if n =? 16 then refusal.TooEarly
    else if n =? 17 then refusal.NoPlace
    else if n =? 18 then refusal.BytesEnd
    else if n =? 19 then refusal.BadNumber
    else if n =? 20 then refusal.BadMark
    else if n =? 21 then refusal.NoRoom
    else if n =? 22 then refusal.TooLarge
    else if n =? 100 then refusal.WrongLength
    else if n =? 101 then refusal.WrongTable
    else if n =? 102 then refusal.WrongState
    else if n =? 103 then refusal.WrongMark
    else refusal.NoPosition

pub at_number : (e : Refusal) → refusal_at (number_of e) ≡ e
unfolding refusal_at
at_number refusal.OutOfRange = refl
at_number refusal.RuleBroken = refl
at_number refusal.TimeTooLarge = refl
at_number refusal.TimeGoesBack = refl
at_number refusal.LeftBehind = refl
at_number refusal.AlreadyRunning = refl
at_number refusal.NoJobLeft = refl
at_number refusal.BeyondLock = refl
at_number refusal.NothingRunning = refl
at_number refusal.RoundOpen = refl
at_number refusal.OtherRound = refl
at_number refusal.NotAsSent = refl
at_number refusal.TooSoon = refl
at_number refusal.IllFormed = refl
at_number refusal.TooEarly = refl
at_number refusal.NoPlace = refl
at_number refusal.BytesEnd = refl
at_number refusal.BadNumber = refl
at_number refusal.BadMark = refl
at_number refusal.NoRoom = refl
at_number refusal.TooLarge = refl
at_number refusal.WrongLength = refl
at_number refusal.WrongTable = refl
at_number refusal.WrongState = refl
at_number refusal.WrongMark = refl
at_number refusal.NoPosition = refl

pub number_same : {d e : Refusal} → number_of d ≡ number_of e → d ≡ e
number_same {d} {e} h = sym (at_number d) ∙ ap refusal_at h ∙ at_number e

-- Back from an answer of the rules.
result_at : {A : Type 0} → Answer A → Result A Refusal
result_at (done a) = Ok a
result_at (refused n) = Err (refusal_at n)
result_at (refused_by n i) = Err (refusal_at n)

at_answer : {A : Type 0} (r : Result A Refusal) → result_at (answer_of r) ≡ r
unfolding result_at
at_answer (Ok a) = refl
at_answer (Err e) = ap Err (at_number e)

pub answer_same : {A : Type 0} {r s : Result A Refusal} → answer_of r ≡ answer_of s → r ≡ s
answer_same {r = r} {s = s} h = sym (at_answer r) ∙ ap result_at h ∙ at_answer s

-- Any two that a contract admits are one.
pub settled : {A : Type 0} {a : Answer A} {r s : Result A Refusal} → answer_of r ≡ a → answer_of s ≡ a → r ≡ s
settled e d = answer_same (e ∙ sym d)

-- A refusal that a `?` passes on is answered as it came.
pub passed_on : {A : Type 0} (r : Result A Refusal) (e : Refusal) → IsErrAnd r (λ d. d ≡ e) → answer_of r ≡ refused (number_of e)
passed_on r e h = let p = err_from_is_err_and r h in rw p.1 (ap (λ d. refused (number_of d)) p.2)
