-- What a common record by value stands for, the one value that stands for a common record of the rules, and what a record is that this library gave back.
use Rattle.std.specs.Prelude.{◌≡◌, Some, None, map, ℕ, length, take}
use Rattle.std.specs.Prelude as code
use Rattle.std.proofs.Math.Option.{Option, none, some}
use Rattle.laws.specs.Lists.{pad}
use Rattle.rules.specs.Common as rules
use Rattle.rules.specs.Sound.{Sound}
use Rattle.table.specs.Table.{table_of}
use Rattle.table.specs.declared.Table.{Table}
use Rattle.common.specs.declared.Common.{Common}

abbrev pub job_of : ℕ → rules.Job
job_of i = record { task_of = i }

-- "At the start .. no round has been."
abbrev pub last_of : code.Option ℕ → Option ℕ
last_of None = none
last_of (Some l) = some l

abbrev pub last_as : Option ℕ → code.Option ℕ
last_as none = None
last_as (some l) = Some l

abbrev pub common_of : Common → rules.Common
common_of c = record {
  kept = map job_of (take c.count c.tasks);
  B = c.base;
  W = c.start;
  O = c.offset;
  E = c.earliest;
  last = last_of c.last;
}

abbrev pub common_as : rules.Common → Common
common_as c = record {
  tasks = pad 256 0 (map (λ j. j.task_of) c.kept);
  count = length c.kept;
  base = c.B;
  start = c.W;
  offset = c.O;
  earliest = c.E;
  last = last_as c.last;
}

-- A common record that this library gave back under a table.
pub record Given (t : Table) (c : Common) : Type 0 where
  pub exact : c ≡ common_as (common_of c)
  pub sound : Sound (table_of t) (common_of c)
