-- What the answers settle: any two that a contract admits coincide, and a table that passes is a checked one.
use mathlib.Core.Path.{◌≡◌, refl, sym, ap, ◌∙◌}
use mathlib.Core.Bool.{Bool}
use Prim.Native.Nat.{ℕ}
use Rattle.rules.specs.Answer.{Answer, done, refused, refused_by}
use Rattle.rules.specs.Table as rules
use Rattle.table.specs.declared.Table.{Table}
use Rattle.std.specs.Prelude.{Result, Ok, Err}
use Rattle.table.specs.declared.TableFault.{TableFault}
use Rattle.table.specs.declared.TableFault.TheVariants.{OutOfRange, RuleBroken}
use Rattle.table.specs.Table.{table_of, blank_table, Checked}
use Rattle.refusal.specs.declared.Refusal.{Refusal}
use Rattle.table.specs.Check.{answer_of, refusal_of}

-- the answer back from what it stands for
abbrev pub check_of : Answer rules.Table → Result (Unit {0}) TableFault
check_of (done tab) = Ok tt
check_of (refused n) = Err OutOfRange
check_of (refused_by n i) = Err (RuleBroken i)

answer_back : (tab : rules.Table) (r : Result (Unit {0}) TableFault) → check_of (answer_of tab r) ≡ r
answer_back tab (Ok u) = refl
answer_back tab (Err OutOfRange) = refl
answer_back tab (Err (RuleBroken i)) = refl

module _ (t : Table) (r : Result (Unit {0}) TableFault) (e : answer_of (table_of t) r ≡ rules.check (table_of t)) where
  pub check_is : r ≡ check_of (rules.check (table_of t))
  check_is = sym (answer_back (table_of t) r) ∙ ap check_of e

  pub checked : r ≡ Ok tt → Checked t
  checked h = record { passes = sym e ∙ ap (answer_of (table_of t)) h }

  pub check_settled : (s : Result (Unit {0}) TableFault) → answer_of (table_of t) s ≡ rules.check (table_of t) → r ≡ s
  check_settled s d = sym (answer_back (table_of t) r) ∙ ap check_of (e ∙ sym d) ∙ answer_back (table_of t) s

pub range_settled : (nodes timeout count : ℕ) {r s : Bool} → r ≡ rules.out_of_range nodes timeout count → s ≡ rules.out_of_range nodes timeout count → r ≡ s
range_settled nodes timeout count e d = e ∙ sym d

pub blank_settled : (nodes timeout count : ℕ) {r s : Table} → r ≡ blank_table nodes timeout count → s ≡ blank_table nodes timeout count → r ≡ s
blank_settled nodes timeout count e d = e ∙ sym d

pub refusal_settled : (f : TableFault) {r s : Refusal} → r ≡ refusal_of f → s ≡ refusal_of f → r ≡ s
refusal_settled f e d = e ∙ sym d
