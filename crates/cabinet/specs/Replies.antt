-- What the doors answer, and what they leave in what was lent.
use Rattle.std.specs.Prelude.{Bool, List, [], ℕ, ◌-◌, length}
use Rattle.std.specs.Int.{from_bool}
use Rattle.laws.specs.Lists.{pad}
use Rattle.rules.specs.Answer.{Answer, done, refused, refused_by}
use Rattle.rules.specs.Judge as rounds
use Rattle.rules.specs.Close.{Verdict}
use Rattle.rules.specs.Numbers.{Read}
use Rattle.refusal.specs.Refusal.{told_as}
use Rattle.cabinet.specs.declared.reply.Reply.{Reply}
use Rattle.cabinet.specs.declared.reply.NumberReply.{NumberReply}
use Rattle.cabinet.specs.declared.reply.ReportReply.{ReportReply}
use Rattle.cabinet.specs.declared.reply.CloseReply.{CloseReply}
use Rattle.cabinet.specs.declared.reply.RecordReply.{RecordReply}

-- What was asked for, as a number; or the refusal, with the task that 2 and 9 name.
abbrev pub replied : {A : Type 0} → (A → ℕ) → Answer A → Reply
replied value (done a) = record { refusal = 0; value = value a }
replied value (refused n) = record { refusal = n; value = 0 }
replied value (refused_by n i) = record { refusal = n; value = i }

-- The same answer of another value; a task that a refusal names stays.
abbrev pub named : {A B : Type 0} → (A → B) → Answer A → Answer B
named value (done a) = done (value a)
named value (refused n) = refused n
named value (refused_by n i) = refused_by n i

-- A lent array after a call: "A refusal gives its number and changes nothing, in any record or lent buffer".
abbrev pub left : {A : Type 0} → (A → List ℕ) → List ℕ → Answer A → List ℕ
left anew lent (done a) = anew a
left anew lent (refused n) = lent
left anew lent (refused_by n i) = lent

abbrev pub reported : {A : Type 0} → (A → rounds.Report) → Answer A → ReportReply
reported sent (done a) = record { refusal = 0; progress = (sent a).progress; completed = (sent a).completed; run = (sent a).run }
reported sent (refused n) = record { refusal = n; progress = 0; completed = 0; run = 0 }
reported sent (refused_by n i) = record { refusal = n; progress = 0; completed = 0; run = 0 }

-- Beside a refusal: no class, no back-runner, no majority, and nothing said of the node.
abbrev pub no_close : ℕ → CloseReply
no_close n = record { refusal = n; back = 15; majority = 0; left = 0; classes = pad 15 0 [] }

abbrev pub closing : {A : Type 0} → (A → Verdict) → (A → Bool) → Answer A → CloseReply
closing reply behind (done a) = record {
  refusal = 0;
  back = (reply a).back;
  majority = from_bool (reply a).notice;
  left = from_bool (behind a);
  classes = (reply a).classes;
}
closing reply behind (refused n) = no_close n
closing reply behind (refused_by n i) = no_close n

-- "the reply gives the bytes used, 0 on a refusal"
abbrev pub number_told : List ℕ → Answer (Read ℕ) → NumberReply
number_told s (done x) = record { refusal = 0; value = x.value; used = length s - length x.rest }
number_told s (refused n) = record { refusal = n; value = 0; used = 0 }
number_told s (refused_by n i) = record { refusal = n; value = 0; used = 0 }

-- A table that was read is told by the bytes that it took; the task that 2 names is not told here.
abbrev pub used_of : {A : Type 0} → List ℕ → Answer (Read A) → Answer ℕ
used_of s = told_as (λ x. length s - length x.rest)

abbrev pub used_told : {A : Type 0} → List ℕ → Answer (Read A) → Reply
used_told s (done x) = record { refusal = 0; value = length s - length x.rest }
used_told s (refused n) = record { refusal = n; value = 0 }
used_told s (refused_by n i) = record { refusal = n; value = 0 }

abbrev pub record_told : List ℕ → Answer (Read rounds.Round) → RecordReply
record_told s (done x) = record {
  refusal = 0;
  time = x.value.r;
  releases = length x.value.releases;
  entries = length x.value.entries;
  used = length s - length x.rest;
}
record_told s (refused n) = record { refusal = n; time = 0; releases = 0; entries = 0; used = 0 }
record_told s (refused_by n i) = record { refusal = n; time = 0; releases = 0; entries = 0; used = 0 }
