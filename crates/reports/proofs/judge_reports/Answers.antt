-- `reports::judge_reports` meets its contract: each turn judges one report more, and at the end all are judged.
use Rattle.std.proofs.Common.{◌≡◌, ◌≤◌, ◌∙◌, ℕ, List, false, sym, ap, subst, arith, take, length, get_or}
use lib.Seq.{take_all}
use Rattle.table.specs.Table.{table_of}
use Rattle.common.specs.Common.{common_of}
use Rattle.judge.specs.Judgement.{conclusion}
use Rattle.reports.specs.declared.Told.{Told}
use Rattle.reports.specs.declared.Basis.{Basis}
use Rattle.reports.specs.declared.Judging.{Judging}
use Rattle.reports.specs.Reports.{with_next}
use Rattle.reports.proofs.SoFar.{so_far, turned, few, whole}
use Rattle.reports.proofs.judge_reports.Goals as goal

abbrev none : Told
none = record { present = false; progress = 0; completed = 0; run = 0 }

pub loop-e-init : goal.loop-e-init
loop-e-init c = c.begin-judging.ensures

pub loop-e-preserved : goal.loop-e-preserved
loop-e-preserved c =
    c.judge_next-judging.ensures
    ∙ ap (λ (s : Judging). with_next s (get_or c.args.reports.now c.loop-e.e-index none)) c.loop-e.invariant
    ∙ turned c.args.basis c.args.reports.now c.loop-e.e-index none c.loop-e-test.true

-- past the end every report is judged
all_judged : (b : Basis) (l : List Told) (i : ℕ) {s : Judging} → s ≡ so_far b (take i l) → length l ≤ i → s ≡ so_far b l
all_judged b l i e h = e ∙ ap (so_far b) (take_all i l h)

pub conclude-requires : goal.conclude-requires
conclude-requires c =
    (c.requires, subst (λ (s : Judging). s.count ≤ 15) (sym (all_judged c.args.basis c.args.reports.now c.loop-e.e-index c.loop-e.invariant (omega arith))) (few c.args.basis c.args.reports.now))

pub returns : goal.returns
returns c =
    c.conclude.ensures
    ∙ ap (λ (s : Judging). conclusion (table_of c.args.basis.table) (common_of c.args.basis.common) (take s.count s.all))
    (all_judged c.args.basis c.args.reports.now c.loop-e.e-index c.loop-e.invariant (omega arith))
    ∙ whole c.args.basis c.requires c.args.reports.now
