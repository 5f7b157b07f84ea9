-- `listing::all_listed` meets its contract. The invariant: what is left of the list, after the delay last met, is as ill-listed as the whole.
use mathlib.Core.Path.{◌≡◌}
use mathlib.Core.List.{map}
use lib.ListN.{drop}
use Rattle.rules.specs.Close.{ill_listed}
use Rattle.table.specs.Table.{table_of}
use Rattle.round.specs.Round.{release_of, releases_of}
use Rattle.release.proofs.listing.all_listed.Given as goal

abbrev pub invariant-loop-x : goal.invariant-loop-x
invariant-loop-x l = ill_listed (table_of l.t) 0 (releases_of l.fn.q) ≡ ill_listed (table_of l.t) l.least (map release_of (drop l.x-index l.x-items))
