-- Any two replies that a contract admits coincide.
use mathlib.Core.Path.{◌≡◌, sym, ◌∙◌}
use mathlib.Core.List.{List}
use Prim.Native.Nat.{ℕ}
use lib.ListN.{take}
use Rattle.rules.specs.Judge.{class}
use Rattle.table.specs.declared.Table.{Table}
use Rattle.table.specs.Table.{table_of}
use Rattle.common.specs.declared.Common.{Common}
use Rattle.common.specs.Common.{common_of}
use Rattle.std.specs.Prelude.{Option}
use Rattle.round.specs.declared.Report.{Report}
use Rattle.round.specs.declared.Round.{Round}
use Rattle.round.specs.Round.{entry_of, round_of}
use Rattle.passes.specs.declared.Classed.{Classed}
use Rattle.judge.specs.declared.Judgement.{Judgement}
use Rattle.judge.specs.declared.class.Before.{Before}
use Rattle.judge.specs.declared.Prepared.{Prepared}
use Rattle.judge.specs.Judgement.{conclusion, judgement}
use Rattle.judge.specs.Lent.{prepared, class_at, classed_at}

pub class_of_settled : (ends : List ℕ) (b : Before) (entry : Option Report) {r s : ℕ} → r ≡ class_at ends b (entry_of entry)
    → s ≡ class_at ends b (entry_of entry) → r ≡ s
class_of_settled ends b entry e d = e ∙ sym d

pub judge_entry_settled : (t : Table) (c : Common) (time : ℕ) (entry : Option Report) {r s : ℕ} → r ≡ class (table_of t) (common_of c) time (entry_of entry)
    → s ≡ class (table_of t) (common_of c) time (entry_of entry) → r ≡ s
judge_entry_settled t c time entry e d = e ∙ sym d

pub prepare_settled : (t : Table) (c : Common) (time : ℕ) {r s : Prepared} → r ≡ prepared t c time → s ≡ prepared t c time → r ≡ s
prepare_settled t c time e d = e ∙ sym d

pub classed_entry_settled : (p : Prepared) (entry : Option Report) {r s : Classed} → r ≡ classed_at p.ends p.before (entry_of entry)
    → s ≡ classed_at p.ends p.before (entry_of entry) → r ≡ s
classed_entry_settled p entry e d = e ∙ sym d

pub conclude_settled : (t : Table) (c : Common) (all : List Classed) (n : ℕ) {r s : Judgement} → r ≡ conclusion (table_of t) (common_of c) (take n all)
    → s ≡ conclusion (table_of t) (common_of c) (take n all) → r ≡ s
conclude_settled t c all n e d = e ∙ sym d

pub judge_round_settled : (t : Table) (c : Common) (q : Round) {r s : Judgement} → r ≡ judgement (table_of t) (common_of c) (round_of q)
    → s ≡ judgement (table_of t) (common_of c) (round_of q) → r ≡ s
judge_round_settled t c q e d = e ∙ sym d
