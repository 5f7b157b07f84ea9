-- What a round record by value stands for, and the one value that stands for a record within the counts.
use Rattle.std.proofs.Math.Option.{Option, none, some}
use Rattle.std.specs.Prelude as code
use Rattle.std.specs.Prelude.{Some, None, List, [], map, length, get_or}
use Rattle.laws.specs.Lists.{rows, pad}
use Rattle.rules.specs.Judge as rules
use Rattle.round.specs.declared.Release.{Release}
use Rattle.round.specs.declared.Report.{Report}
use Rattle.round.specs.declared.Round.{Round}

abbrev pub release_of : Release → rules.Release
release_of x = record { task_of = x.task; delay = x.delay }

abbrev pub sent_report : Report → rules.Report
sent_report e = record { progress = e.progress; completed = e.completed; run = e.run }

abbrev pub entry_of : code.Option Report → Option rules.Report
entry_of None = none
entry_of (Some e) = some (sent_report e)

abbrev pub no_release : Release
no_release = record { task = 0; delay = 0 }

abbrev pub no_entry : code.Option Report
no_entry = None

abbrev pub releases_of : Round → List rules.Release
releases_of q = rows (λ i. release_of (get_or q.releases i no_release)) q.listed

abbrev pub entries_of : Round → List (Option rules.Report)
entries_of q = rows (λ i. entry_of (get_or q.entries i no_entry)) q.entered

abbrev pub round_of : Round → rules.Round
round_of q = record { r = q.time; releases = releases_of q; entries = entries_of q }

-- The other way: places not used hold a release of zeros, or a missing entry.
abbrev pub release_as : rules.Release → Release
release_as x = record { task = x.task_of; delay = x.delay }

abbrev pub report_as : rules.Report → Report
report_as e = record { progress = e.progress; completed = e.completed; run = e.run }

abbrev pub entry_as : Option rules.Report → code.Option Report
entry_as none = None
entry_as (some e) = Some (report_as e)

abbrev pub round_as : rules.Round → Round
round_as q = record {
  time = q.r;
  listed = length q.releases;
  releases = pad 64 no_release (map release_as q.releases);
  entered = length q.entries;
  entries = pad 15 no_entry (map entry_as q.entries);
}

-- The record that says nothing.
abbrev pub blank : Round
blank = round_as (record { r = 0; releases = []; entries = [] })
