-- What a list of lent reports stands for, and what is judged of it at each step.
use Rattle.std.proofs.Math.Option.{Option, none, some}
use Rattle.std.specs.Prelude.{List, [], map, ℕ, ◌+◌, ◌^◌, ◌<◌, take, set, if◌then◌else◌}
use Rattle.laws.specs.Tests.{◌≤?◌}
use Rattle.laws.specs.Lists.{pad}
use Rattle.rules.specs.Judge as rules
use Rattle.table.specs.Table.{Checked}
use Rattle.common.specs.Common.{Given}
use Rattle.passes.specs.declared.Classed.{Classed}
use Rattle.passes.specs.Classed.{no_class}
use Rattle.judge.specs.declared.Prepared.{Prepared}
use Rattle.judge.specs.Lent.{prepared, classed_at}
use Rattle.reports.specs.declared.Told.{Told}
use Rattle.reports.specs.declared.Basis.{Basis}
use Rattle.reports.specs.declared.Judging.{Judging}

-- "each missing or (progress, completion time, run)": the numbers of a missing one mean nothing.
abbrev pub told_of : Told → Option rules.Report
told_of e = if e.present then some (record { progress = e.progress; completed = e.completed; run = e.run }) else none

-- The round that the reports are judged as. There are fifteen places: of a longer list the rest is not judged. 15 ("entry count not m") comes before
-- judging, and is the caller's.
abbrev pub round_of_told : ℕ → List Told → rules.Round
round_of_told time l = record { r = time; releases = []; entries = map told_of (take 15 l) }

-- What judging asks: a table that was checked, a record that was given back, and a time that passes refusal 3 ("time above 2^48 − 1").
pub record Ready (b : Basis) : Type 0 where
  pub checked : Checked b.table
  pub given : Given b.table b.common
  pub time : b.time < 2 ^ 48

-- A report with its class, and with what the passes read of it.
abbrev pub judged : Prepared → Told → Classed
judged p e = classed_at p.ends p.before (told_of e)

-- The walk is done, and no report is judged yet.
abbrev pub begun : Basis → Judging
begun b = record { prepared = prepared b.table b.common b.time; count = 0; all = pad 15 no_class [] }

-- One report more, in the next place, where there is one.
unfoldable pub with_next : Judging → Told → Judging
with_next a e = if 15 ≤? a.count then a else record { prepared = a.prepared; count = a.count + 1; all = set a.all a.count (judged a.prepared e) }
