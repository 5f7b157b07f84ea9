-- The numbers of 1 are in range, and the first task that breaks a rule is the one that the pass found.
use mathlib.Core.Path.{◌≡◌, sym, ap, ◌∙◌}
use mathlib.Core.Bool.{Bool, true, false, not}
use Prim.Native.Nat.{ℕ, ◌≤◌, ◌<◌}
use borrow.Author.Tests.{ltb-false}
use Rattle.laws.specs.Search.{first_from}
use Rattle.laws.proofs.Tests.{none_of}
use Rattle.laws.proofs.First.{first_same, first_lowest, first_none}
use Rattle.rules.specs.Table.{out_of_range, check}
use Rattle.table.specs.declared.Table.{Table}
use Rattle.std.specs.Prelude.{Ok, Err}
use Rattle.table.specs.declared.TableFault.TheVariants.{OutOfRange, RuleBroken}
use Rattle.table.specs.Table.{table_of}
use Rattle.table.specs.Check.{answer_of, first_breaking}
use Rattle.table.proofs.Rules.{breaks_rule, keeps_is, out_refused, rule_refused, all_kept}
use Rattle.table.proofs.check_table.Goals as goal

module _ (t : Table) {b : Bool} (e : b ≡ out_of_range t.nodes t.timeout t.count) where
  refused_out : b ≡ true → answer_of (table_of t) (Err OutOfRange) ≡ check (table_of t)
  refused_out h = out_refused t (sym e ∙ h)

  module _ (h : b ≡ false) where
    few : t.count ≤ 64
    unfolding out_of_range
    few = ltb-false _ _ (none_of _ (sym e ∙ h) 3)

    module _ {first : ℕ} (p : first ≡ first_breaking t.longest t.distance t.deadline t.slack t.timeout t.count) where
      found_is : first ≡ first_from (breaks_rule t) 0 t.count
      unfolding first_breaking breaks_rule
      found_is = p ∙ first_same _ (breaks_rule t) 0 t.count (λ i a l. ap not (sym (keeps_is t i l)))

      broken : first < t.count → answer_of (table_of t) (Err (RuleBroken first)) ≡ check (table_of t)
      broken l = rule_refused t (sym e ∙ h) first (first_lowest (breaks_rule t) t.count found_is l)

      kept : t.count ≤ first → answer_of (table_of t) (Ok tt) ≡ check (table_of t)
      kept l = all_kept t (sym e ∙ h) (first_none (breaks_rule t) t.count found_is l)

pub returns-then-out_of_range : goal.returns-then-out_of_range
returns-then-out_of_range c = search refused_out

pub first_broken-first-requires : goal.first_broken-first-requires
first_broken-first-requires c = search few

pub returns-then-first-t : goal.returns-then-first-t
returns-then-first-t c = search broken

pub returns : goal.returns
returns c = search kept
