-- What may be asked of a checked table and of a record that was given back: a position from B on, or past it at a time.
use Rattle.std.specs.Prelude.{ℕ, ◌^◌, ◌≤◌, ◌<◌}
use Rattle.rules.specs.Common.{L}
use Rattle.table.specs.Table.{Checked}
use Rattle.table.specs.declared.Table.{Table}
use Rattle.common.specs.declared.Common.{Common}
use Rattle.common.specs.Common.{common_of, Given}

-- "position p ≥ B"
pub record Projectable (t : Table) (c : Common) (p : ℕ) : Type 0 where
  pub table : Checked t
  pub common : Given t c
  pub from : c.base ≤ p
  pub to : p ≤ L (common_of c)

-- "the job there": it is kept.
pub record Occupied (t : Table) (c : Common) (p time : ℕ) : Type 0 where
  pub table : Checked t
  pub common : Given t c
  pub past : c.base < p
  pub to : p ≤ L (common_of c)
  pub soon : time < 2 ^ 49
