-- What reading the task table answers, part by part.
use Rattle.std.specs.Prelude.{List, map, ℕ, length, set}
use Rattle.laws.specs.Lists.{pad}
use Rattle.rules.specs.Answer.{Answer, done, refused, refused_by, refuse◌if◌else◌}
use Rattle.rules.specs.Table as rules
use Rattle.rules.specs.Numbers.{Read, Reads, ◌>>=◌, give, number}
use Rattle.rules.specs.Written.{times}
use Rattle.rules.specs.Session.{read_task}
use Rattle.table.specs.declared.Table.{Table}
use Rattle.number.specs.Numbers.{placed}
use Rattle.intake.specs.declared.Task.{Task}

abbrev pub task_as : rules.Task → Task
task_as k = record { longest = k.C; distance = k.T; deadline = k.D; slack = k.S }

-- The one table by value that stands for a table of at most 64 tasks: places not used hold 0.
abbrev pub table_as : rules.Table → Table
table_as tab = record {
  nodes = tab.m;
  timeout = tab.timeout;
  count = length tab.tasks;
  longest = pad 64 0 (map (λ k. k.C) tab.tasks);
  distance = pad 64 0 (map (λ k. k.T) tab.tasks);
  deadline = pad 64 0 (map (λ k. k.D) tab.tasks);
  slack = pad 64 0 (map (λ k. k.S) tab.tasks);
}

abbrev pub with_task : Table → ℕ → Task → Table
with_task t i x = record {
  nodes = t.nodes;
  timeout = t.timeout;
  count = t.count;
  longest = set t.longest i x.longest;
  distance = set t.distance i x.distance;
  deadline = set t.deadline i x.deadline;
  slack = set t.slack i x.slack;
}

-- What is told of a table: the table, and "the bytes used".
abbrev pub table_read : List ℕ → Answer (Read rules.Table) → Answer (Table × ℕ)
table_read = placed table_as

-- The tasks alone, under these numbers of the head.
abbrev pub under : ℕ → ℕ → List rules.Task → rules.Table
under m timeout tasks = record { m = m; timeout = timeout; tasks = tasks }

abbrev pub tasks_read : ℕ → ℕ → List ℕ → Answer (Read (List rules.Task)) → Answer (Table × ℕ)
tasks_read m timeout = placed (λ tasks. table_as (under m timeout tasks))

-- A table that was read, checked.
abbrev pub answered : List ℕ → Answer rules.Table → Answer (Read rules.Table)
answered s (done t) = give t s
answered s (refused n) = refused n
answered s (refused_by n i) = refused_by n i

abbrev pub checked_tasks : ℕ → ℕ → ℕ → Reads rules.Table
checked_tasks m timeout count = times count read_task >>= λ tasks s. answered s (rules.check (under m timeout tasks))

-- "1 is decided as soon as the first three numbers are read": the third of them, and what follows.
abbrev pub counted_tasks : ℕ → ℕ → Reads rules.Table
counted_tasks m timeout = number >>= λ count s. refuse 1 if rules.out_of_range m timeout count else checked_tasks m timeout count s
