-- Any two replies that a contract admits coincide.
use mathlib.Core.Path.{◌≡◌, sym, ◌∙◌}
use mathlib.Core.List.{List, []}
use Rattle.laws.specs.Lists.{pad}
use Rattle.round.specs.declared.Release.{Release}
use Rattle.std.specs.Prelude.{Option}
use Rattle.round.specs.declared.Report.{Report}
use Rattle.round.specs.declared.Round.{Round}
use Rattle.round.specs.Round.{no_release, no_entry, blank}

pub blank_settled : {r s : Round} → r ≡ blank → s ≡ blank → r ≡ s
blank_settled e d = e ∙ sym d

pub no_releases_settled : {r s : List Release} → r ≡ pad 64 no_release [] → s ≡ pad 64 no_release [] → r ≡ s
no_releases_settled e d = e ∙ sym d

pub no_entries_settled : {r s : List (Option Report)} → r ≡ pad 15 no_entry [] → s ≡ pad 15 no_entry [] → r ≡ s
no_entries_settled e d = e ∙ sym d
