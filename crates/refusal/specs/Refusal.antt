-- The number of each refusal, and what a call by value answers in the words of the rules.
use Rattle.std.specs.Prelude.{ℕ, Result, Ok, Err}
use Rattle.rules.specs.Answer.{Answer, done, refused, refused_by}
use Rattle.refusal.specs.declared.Refusal.{Refusal}
use Rattle.refusal.specs.declared.Refusal.TheVariants as refusal

abbrev pub number_of : Refusal → ℕ
number_of refusal.OutOfRange = 1
number_of refusal.RuleBroken = 2
number_of refusal.TimeTooLarge = 3
number_of refusal.TimeGoesBack = 4
number_of refusal.LeftBehind = 5
number_of refusal.AlreadyRunning = 6
number_of refusal.NoJobLeft = 7
number_of refusal.BeyondLock = 8
number_of refusal.NothingRunning = 10
number_of refusal.RoundOpen = 11
number_of refusal.OtherRound = 12
number_of refusal.NotAsSent = 13
number_of refusal.TooSoon = 14
number_of refusal.IllFormed = 15
number_of refusal.TooEarly = 16
number_of refusal.NoPlace = 17
number_of refusal.BytesEnd = 18
number_of refusal.BadNumber = 19
number_of refusal.BadMark = 20
number_of refusal.NoRoom = 21
number_of refusal.TooLarge = 22
number_of refusal.WrongLength = 100
number_of refusal.WrongTable = 101
number_of refusal.WrongState = 102
number_of refusal.WrongMark = 103
number_of refusal.NoPosition = 104

-- "A refusal gives its number": what was asked for, or the number.
abbrev pub answer_of : {A : Type 0} → Result A Refusal → Answer A
answer_of (Ok a) = done a
answer_of (Err e) = refused (number_of e)

-- What is answered, in another form; a task that a refusal names is not told.
abbrev pub told_as : {A B : Type 0} → (A → B) → Answer A → Answer B
told_as form (done a) = done (form a)
told_as form (refused n) = refused n
told_as form (refused_by n i) = refused n
