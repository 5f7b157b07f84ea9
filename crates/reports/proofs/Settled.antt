-- Any two replies that a contract admits coincide.
use mathlib.Core.Path.{◌≡◌, sym, ◌∙◌}
use mathlib.Core.List.{List}
use Rattle.std.specs.Prelude.{Option}
use Rattle.table.specs.Table.{table_of}
use Rattle.common.specs.Common.{common_of}
use Rattle.round.specs.declared.Report.{Report}
use Rattle.round.specs.Round.{entry_as}
use Rattle.judge.specs.declared.Judgement.{Judgement}
use Rattle.judge.specs.Judgement.{judgement}
use Rattle.reports.specs.declared.Told.{Told}
use Rattle.reports.specs.declared.Basis.{Basis}
use Rattle.reports.specs.declared.Judging.{Judging}
use Rattle.reports.specs.Reports.{told_of, round_of_told, with_next}

pub entry_settled : (e : Told) {r s : Option Report} → r ≡ entry_as (told_of e) → s ≡ entry_as (told_of e) → r ≡ s
entry_settled e p d = p ∙ sym d

pub judge_next_settled : (a : Judging) (e : Told) {r s : Judging} → r ≡ with_next a e → s ≡ with_next a e → r ≡ s
judge_next_settled a e p d = p ∙ sym d

pub judge_reports_settled : (b : Basis) (l : List Told) {r s : Judgement} → r ≡ judgement (table_of b.table) (common_of b.common) (round_of_told b.time l)
    → s ≡ judgement (table_of b.table) (common_of b.common) (round_of_told b.time l) → r ≡ s
judge_reports_settled b l e d = e ∙ sym d
