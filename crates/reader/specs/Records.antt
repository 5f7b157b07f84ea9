-- What reading a record answers, part by part.
use Rattle.std.proofs.Math.Option.{none}
use Rattle.std.specs.Prelude.{List, ℕ, replicate}
use Rattle.rules.specs.Answer.{Answer}
use Rattle.rules.specs.Judge as rules
use Rattle.rules.specs.Numbers.{Reads, ◌>>=◌, give, number}
use Rattle.rules.specs.Written.{times, counted, read_release, read_entry, read_record, Reading, read_into}
use Rattle.refusal.specs.Refusal.{told_as}
use Rattle.round.specs.declared.Round.{Round}
use Rattle.round.specs.Round.{round_as}
use Rattle.number.specs.Numbers.{placed}

-- A count of a list, with its limit (15) and the places that there are (21).
abbrev pub count_in : ℕ → ℕ → Reads ℕ
count_in limit room = number >>= counted limit room

-- A list behind its count, into so many places.
abbrev pub list_in : {A : Type 0} → ℕ → ℕ → Reads A → Reads (List A)
list_in limit room rd = count_in limit room >>= λ n. times n rd

-- Both lists, into so many places each, behind a time that was read.
abbrev pub lists : ℕ → ℕ → ℕ → Reads rules.Round
lists releases entries r =
    list_in 64 releases read_release >>= λ xs. list_in 15 entries read_entry >>= λ es. give (record { r = r; releases = xs; entries = es })

-- What is told of a record: the record, and "the bytes used".
abbrev pub within_read : ℕ → ℕ → List ℕ → Answer (Round × ℕ)
within_read releases entries s = placed round_as s (read_record releases entries s)

-- Of a reading into lent lists, whatever they held.
abbrev pub record_read : Reading → Answer (Round × ℕ)
record_read g = told_as (λ q. (round_as q, g.used)) g.answer

-- Into lists with room for every record.
abbrev pub record_from : List ℕ → Reading
record_from = read_into (replicate 64 (record { task_of = 0; delay = 0 })) (replicate 15 none)
