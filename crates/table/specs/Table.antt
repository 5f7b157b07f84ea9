-- What a table by value stands for, and what a checked one is.
use Rattle.std.specs.Prelude.{◌≡◌, [], ℕ, get_or}
use Rattle.laws.specs.Lists.{rows, pad}
use Rattle.rules.specs.Answer.{done}
use Rattle.rules.specs.Table as rules
use Rattle.table.specs.declared.Table.{Table}

abbrev pub row : Table → ℕ → rules.Task
row t i = record { C = get_or t.longest i 0; T = get_or t.distance i 0; D = get_or t.deadline i 0; S = get_or t.slack i 0 }

abbrev pub table_of : Table → rules.Table
table_of t = record { m = t.nodes; timeout = t.timeout; tasks = rows (row t) t.count }

-- With its counts, and no task in its places.
abbrev pub blank_table : ℕ → ℕ → ℕ → Table
blank_table nodes timeout count = record {
  nodes = nodes;
  timeout = timeout;
  count = count;
  longest = pad 64 0 [];
  distance = pad 64 0 [];
  deadline = pad 64 0 [];
  slack = pad 64 0 [];
}

-- A table that the check let pass.
pub record Checked (t : Table) : Type 0 where
  pub passes : rules.check (table_of t) ≡ done (table_of t)
