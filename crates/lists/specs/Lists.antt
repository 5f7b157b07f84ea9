-- A round record whose lists are words in the caller's memory: two for each release, four for each entry.
use Rattle.std.specs.Prelude.{Bool, not, ℕ, ◌+◌, ◌*◌, ◌/◌, ◌%◌, length, take, get_or, if◌then◌else◌}
use Rattle.std.specs.Prelude as code
use Rattle.std.proofs.Math.Option.{Option, none, some}
use mathlib.Core.List.{List, [], ◌∷◌, ◌++◌, map, foldr}
use Rattle.laws.specs.Tests.{◌<?◌, ◌=?◌, found}
use Rattle.laws.specs.Search.{lowest}
use Rattle.laws.specs.Lists.{rows, pad}
use Rattle.rules.specs.Answer.{Answer, done, refuse◌if◌else◌, ◌>>=◌}
use Rattle.rules.specs.Judge as rules
use Rattle.refusal.specs.Refusal.{told_as}
use Rattle.round.specs.declared.Release.{Release}
use Rattle.round.specs.declared.Report.{Report}
use Rattle.round.specs.declared.Round.{Round}
use Rattle.round.specs.Round.{release_as, entry_as, no_release, no_entry}

-- "releases (task, delay after r)": the words of one are its task and its delay.
abbrev pub release_at : List ℕ → ℕ → rules.Release
release_at ws i = record { task_of = get_or ws (2 * i) 0; delay = get_or ws (2 * i + 1) 0 }

-- 100: another length than a list of releases has.
unfoldable pub releases_at : List ℕ → Answer (List rules.Release)
releases_at ws = refuse 100 if not (length ws % 2 =? 0) else done (rows (release_at ws) (length ws / 2))

-- "each missing or (progress, completion time, run)": behind a mark of 0 nothing is looked at.
abbrev pub entry_of : ℕ → ℕ → ℕ → ℕ → Option rules.Report
entry_of mark p t u = if mark =? 0 then none else some (record { progress = p; completed = t; run = u })

abbrev pub entry_at : List ℕ → ℕ → Option rules.Report
entry_at ws i = entry_of (get_or ws (4 * i) 0) (get_or ws (4 * i + 1) 0) (get_or ws (4 * i + 2) 0) (get_or ws (4 * i + 3) 0)

-- 103: some entry's mark is above 1.
abbrev pub above_one : List ℕ → ℕ → Bool
above_one ws i = 1 <? get_or ws (4 * i) 0

unfoldable pub wrong_mark : List ℕ → Bool
wrong_mark ws = found (lowest (above_one ws) (length ws / 4))

-- 100 comes before 103: an array is looked at for its length and then for what it holds.
unfoldable pub entries_at : List ℕ → Answer (List (Option rules.Report))
entries_at ws =
    refuse 100 if not (length ws % 4 =? 0)
    else refuse 103 if wrong_mark ws
    else done (rows (entry_at ws) (length ws / 4))

-- "A record has r, 0 to 64 releases (task, delay after r) and m entries": any number of both here, since more of them is the rules' 15.
unfoldable pub round_at : ℕ → List ℕ → List ℕ → Answer rules.Round
round_at r ws vs = releases_at ws >>= λ xs. entries_at vs >>= λ es. done (record { r = r; releases = xs; entries = es })

-- The first 64 releases, and the first 15 entries, in their places.
abbrev pub release_places : List rules.Release → List Release
release_places xs = pad 64 no_release (map release_as (take 64 xs))

abbrev pub entry_places : List (Option rules.Report) → List (code.Option Report)
entry_places es = pad 15 no_entry (map entry_as (take 15 es))

-- A record by value. Its counts are the record's own: where a list is longer than the places they say so, and it is refused 15 like the record.
abbrev pub round_cut : rules.Round → Round
round_cut q = record {
  time = q.r;
  listed = length q.releases;
  releases = release_places q.releases;
  entered = length q.entries;
  entries = entry_places q.entries;
}

-- What is told of a record: the record by value.
abbrev pub told_round : Answer rules.Round → Answer Round
told_round = told_as round_cut

-- The way back: the words of each element, one behind the other.
abbrev pub joined : {A : Type 0} → (A → List ℕ) → List A → List ℕ
joined f = foldr (λ x ws. f x ++ ws) []

abbrev pub words_of_release : rules.Release → List ℕ
words_of_release x = x.task_of ∷ x.delay ∷ []

abbrev pub release_words : List rules.Release → List ℕ
release_words = joined words_of_release

-- "A missing entry carries no numbers": its words are zeros.
abbrev pub words_of_entry : Option rules.Report → List ℕ
words_of_entry none = 0 ∷ 0 ∷ 0 ∷ 0 ∷ []
words_of_entry (some e) = 1 ∷ e.progress ∷ e.completed ∷ e.run ∷ []

abbrev pub entry_words : List (Option rules.Report) → List ℕ
entry_words = joined words_of_entry
