-- What reading and writing a number answer.
use Rattle.std.specs.Prelude.{◌&&◌, List, ◌++◌, ℕ, ◌-◌, length, take, if◌then◌else◌}
use Rattle.laws.specs.Tests.{◌<?◌, ◌=?◌}
use Rattle.rules.specs.Answer.{Answer, done, refused, refused_by}
use Rattle.rules.specs.Numbers.{Read}
use Rattle.rules.specs.Written.{Wrote}
use Rattle.refusal.specs.Refusal.{told_as}

-- What is told of a reading of s, or of a part of s that goes to its end: what was read and the place past it, or the refusal.
abbrev pub told : {A B : Type 0} → (A → ℕ → B) → (ℕ → B) → List ℕ → Answer (Read A) → B
told value stop s (done x) = value x.value (length s - length x.rest)
told value stop s (refused n) = stop n
told value stop s (refused_by n i) = stop n

-- The same as an answer, in another form of what was read: a call by value tells no task that a refusal names.
abbrev pub placed : {A B : Type 0} → (A → B) → List ℕ → Answer (Read A) → Answer (B × ℕ)
placed form = told (λ x next. done (form x, next)) refused

abbrev pub number_read : List ℕ → Answer (Read ℕ) → Answer (ℕ × ℕ)
number_read = placed (λ v. v)

-- The last group, with so many before it: 19 where it is 0 and not the only one.
abbrev pub last_group : ℕ → ℕ → ℕ → ℕ → Answer (ℕ × ℕ)
last_group before value group next = if (0 <? before) && (group =? 0) then refused 19 else done (value, next)

-- What is told of a writing: how many bytes.
abbrev pub written_of : Answer Wrote → Answer ℕ
written_of = told_as (λ w. w.bytes)

-- What a writing into the part of s from a place on leaves in s: "A refusal changes nothing, in any record or lent buffer".
abbrev pub left_from : ℕ → List ℕ → Answer Wrote → List ℕ
left_from from s (done w) = take from s ++ w.buffer
left_from from s (refused n) = s
left_from from s (refused_by n i) = s
