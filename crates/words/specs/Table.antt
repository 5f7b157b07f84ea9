-- The words of a task table, and the table that they are.
use Rattle.std.specs.Prelude.{Bool, true, false, not, List, ◌∷◌, ◌++◌, ℕ, length, take, drop, get_or}
use Rattle.laws.specs.Tests.{◌=?◌}
use Rattle.rules.specs.Answer.{Answer, done, refused, refused_by, refuse◌if◌else◌}
use Rattle.rules.specs.Table as rules
use Rattle.table.specs.declared.Table.{Table}
use Rattle.table.specs.Table.{table_of}

-- "number of nodes, timeout, number of tasks, then 64 words each of C, T, D and S"
abbrev pub table_words : Table → List ℕ
table_words t = t.nodes ∷ t.timeout ∷ t.count ∷ (t.longest ++ (t.distance ++ (t.deadline ++ t.slack)))

-- The same, back: every word is kept, also those past the tasks.
abbrev pub table_in : List ℕ → Table
table_in ws = record {
  nodes = get_or ws 0 0;
  timeout = get_or ws 1 0;
  count = get_or ws 2 0;
  longest = take 64 (drop 3 ws);
  distance = take 64 (drop 67 ws);
  deadline = take 64 (drop 131 ws);
  slack = take 64 (drop 195 ws);
}

-- The check lets a table pass: neither 1 nor 2.
abbrev pub passes : Answer rules.Table → Bool
passes (done t) = true
passes (refused n) = false
passes (refused_by n i) = false

-- 100: the array has another length than 259 words; 101: the table does not pass the check.
unfoldable pub table_at : List ℕ → Answer Table
table_at ws =
    refuse 100 if not (length ws =? 259)
    else refuse 101 if not (passes (rules.check (table_of (table_in ws))))
    else done (table_in ws)
