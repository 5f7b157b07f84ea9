-- A round judged by the passes is judged as the rules say.
use mathlib.Core.Path.{◌≡◌, sym, ap, ap₂, ◌∙◌}
use mathlib.Core.Option.{Option}
use mathlib.Core.List.{List, map}
use Prim.Native.Nat.{◌≤◌}
use native.Mathlib.Omega.{arith}
use lib.ListN.{length, take, length-map}
use lib.Seq.{length-take-le}
use Rattle.laws.specs.Lists.{pad}
use Rattle.laws.proofs.Lists.{take_pad}
use Rattle.laws.proofs.Sequences.{rows_take}
use Rattle.rules.specs.Judge as rules
use Rattle.table.specs.declared.Table.{Table}
use Rattle.table.specs.Table.{table_of}
use Rattle.table.proofs.Facts.{ranges}
use Rattle.common.specs.declared.Common.{Common}
use Rattle.common.specs.Common.{common_of}
use Rattle.std.specs.Prelude as code
use Rattle.round.specs.declared.Report.{Report}
use Rattle.round.specs.declared.Round.{Round}
use Rattle.round.specs.Round.{entry_of, entries_of, round_of, no_entry}
use Rattle.judge.specs.declared.Prepared.{Prepared}
use Rattle.judge.specs.declared.Judgement.{Judgement}
use Rattle.passes.specs.declared.Classed.{Classed}
use Rattle.passes.specs.Classed.{no_class}
use Rattle.judge.specs.Judgement.{classed_as, conclusion, judgement, Ready}
use Rattle.judge.specs.Lent.{prepared, classed_at}
use Rattle.judge.proofs.Lent.{classed_same}
use Rattle.judge.proofs.Folded.{map_map, concluded}

module _ {t : Table} {c : Common} {q : Round} (v : Ready t c q) where
  pub few : q.entered ≤ 15
  few = omega (arith, v.entered, (ranges v.checked).nodes)

  module _ {p : Prepared} (d : p ≡ prepared t c q.time) where
    abbrev judged : Option rules.Report → Classed
    judged = classed_at p.ends p.before

    module _ (places : length q.entries ≡ 15) {all : List Classed}
        (a : all ≡ pad 15 no_class (map (λ e. judged (entry_of e)) (take q.entered q.entries))) where
      one : code.Option Report → Classed
      one e = judged (entry_of e)

      counted : length (map one (take q.entered q.entries)) ≡ q.entered
      counted = length-map (take q.entered q.entries) one ∙ length-take-le q.entered q.entries (omega (arith, few))

      -- the entries of the round, each with its class
      taken : take q.entered all ≡ map (classed_as (table_of t) (common_of c) q.time) (entries_of q)
      unfolding one
      taken =
          ap₂ take (sym counted) a
          ∙ take_pad 15 no_class (map one (take q.entered q.entries))
          ∙ ap (λ (f : Option rules.Report → Classed). map (λ (e : code.Option Report). f (entry_of e)) (take q.entered q.entries)) (λ i x. classed_same v.checked v.given q.time d x i)
          ∙ sym (map_map entry_of (classed_as (table_of t) (common_of c) q.time) (take q.entered q.entries))
          ∙ ap (map (classed_as (table_of t) (common_of c) q.time)) (rows_take entry_of q.entries no_entry q.entered (omega (arith, few)))

      pub judged_round : {j : Judgement} → j ≡ conclusion (table_of t) (common_of c) (take q.entered all) → j ≡ judgement (table_of t) (common_of c) (round_of q)
      judged_round p = p ∙ ap (conclusion (table_of t) (common_of c)) taken ∙ concluded (table_of t) (common_of c) (round_of q)
