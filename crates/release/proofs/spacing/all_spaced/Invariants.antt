-- `spacing::all_spaced` meets its contract. The invariant: what is left of the list, from the E of those before it, is as early as the whole from the E at
-- entry, and leaves the same E.
use mathlib.Core.Path.{◌≡◌}
use mathlib.Core.List.{foldl, map}
use lib.ListN.{length, drop}
use Rattle.rules.specs.Insert.{next_E}
use Rattle.rules.specs.Close.{too_early}
use Rattle.table.specs.Table.{table_of}
use Rattle.round.specs.Round.{release_of, releases_of}
use Rattle.release.proofs.spacing.all_spaced.Given as goal

abbrev pub invariant-loop-x : goal.invariant-loop-x
invariant-loop-x l = record {
  places : length l.next ≡ 64;
  early : too_early (table_of l.t) l.fn.q.time l.fn.earliest (releases_of l.fn.q) ≡ too_early (table_of l.t) l.fn.q.time l.next (map release_of (drop l.x-index l.x-items));
  after : foldl (next_E (table_of l.t) l.fn.q.time) l.fn.earliest (releases_of l.fn.q) ≡ foldl (next_E (table_of l.t) l.fn.q.time) l.next (map release_of (drop l.x-index l.x-items));
}
