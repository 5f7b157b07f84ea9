-- Numbers, tables and records as bytes, at the doors. Nothing is asked of a lent list but its length.
use Rattle.std.specs.Prelude.{not, List, ℕ, ◌/◌, ◌%◌, length}
use Rattle.laws.specs.Tests.{◌=?◌}
use Rattle.laws.specs.Lists.{over}
use Rattle.rules.specs.Answer.{Answer, ◌>>=◌, refuse◌if◌else◌}
use Rattle.rules.specs.Table as rules
use Rattle.rules.specs.Judge.{Round}
use Rattle.rules.specs.Numbers.{Read}
use Rattle.rules.specs.Written.{Wrote, read_record, write_record}
use Rattle.rules.specs.Session.{read_table}
use Rattle.intake.specs.Table.{table_as}
use Rattle.words.specs.Table.{table_words}
use Rattle.lists.specs.Lists.{round_at, release_words, entry_words}

unfoldable pub write_record_door : List ℕ → ℕ → List ℕ → List ℕ → Answer Wrote
write_record_door bs r rs es = round_at r rs es >>= λ q. write_record q bs

-- "Where the caller lends a list to read into and it is shorter than a count just read, that is 21 there, after that count's 15"
unfoldable pub read_record_door : List ℕ → List ℕ → List ℕ → Answer (Read Round)
read_record_door bs rs es =
    refuse 100 if not (length rs % 2 =? 0)
    else refuse 100 if not (length es % 4 =? 0)
    else read_record (length rs / 2) (length es / 4) bs

-- "places past the count stay as they were"
abbrev pub releases_over : List ℕ → Read Round → List ℕ
releases_over rs x = over (release_words x.value.releases) rs

abbrev pub entries_over : List ℕ → Read Round → List ℕ
entries_over es x = over (entry_words x.value.entries) es

-- A session's table, into the words of one.
unfoldable pub read_table_door : List ℕ → List ℕ → Answer (Read rules.Table)
read_table_door bs ts = refuse 100 if not (length ts =? 259) else read_table bs

abbrev pub table_over : Read rules.Table → List ℕ
table_over x = table_words (table_as x.value)
