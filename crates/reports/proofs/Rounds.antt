-- A list of at most fifteen lent reports is judged as any round whose entries it is.
use mathlib.Core.Path.{◌≡◌, sym, ap, ◌∙◌}
use mathlib.Core.List.{List, [], map}
use Prim.Native.Nat.{ℕ, ◌≤◌}
use lib.ListN.{length}
use lib.Seq.{take_all}
use Rattle.laws.specs.Lists.{pad}
use Rattle.rules.specs.Table.{Table}
use Rattle.rules.specs.Common.{Common}
use Rattle.rules.specs.Judge.{Round, class}
use Rattle.rules.specs.Close.{verdict}
use Rattle.judge.specs.Judgement.{judgement}
use Rattle.reports.specs.declared.Told.{Told}
use Rattle.reports.specs.Reports.{told_of, round_of_told}

module _ (tab : Table) (c : Common) (l : List Told) (few : length l ≤ 15) where
  -- the releases have no part in a judgement
  pub as_round : (q : Round) → q.entries ≡ map told_of l → judgement tab c (round_of_told q.r l) ≡ judgement tab c q
  unfolding judgement verdict
  as_round q e = ap (λ es. judgement tab c (record { r = q.r; releases = []; entries = es })) (ap (map told_of) (take_all 15 l few) ∙ sym e)

  -- "one class number for each of fifteen places"
  pub classes_are : (r : ℕ) → (judgement tab c (round_of_told r l)).classes ≡ pad 15 0 (map (class tab c r) (map told_of l))
  unfolding judgement verdict
  classes_are r = ap (λ (l : List Told). pad 15 0 (map (class tab c r) (map told_of l))) (take_all 15 l few)
