-- The table of words, a lemma for each way out: by their length, and then by what the check answers.
use Rattle.std.specs.Prelude.{◌≡◌, refl, List, ℕ, false, length, Err}
use mathlib.Core.Path.{sym, ap, subst, ◌∙◌}
use Rattle.rules.specs.Answer.{done, refused}
use Rattle.rules.specs.Table as rules
use Rattle.table.specs.declared.Table.{Table}
use Rattle.table.specs.declared.TableFault.{TableFault}
use Rattle.table.specs.declared.TableFault.TheVariants.{OutOfRange, RuleBroken}
use Rattle.table.specs.Table.{table_of, Checked}
use Rattle.table.specs.Check.{answer_of}
use Rattle.words.specs.Table.{table_in, passes, table_at}
use Rattle.words.proofs.Table.{at_other_length, at_broken, at_passed}
use Rattle.words.proofs.tables.table_in.Goals as goal

no_fault_passes : (tab : rules.Table) (k : TableFault) → passes (answer_of tab (Err k)) ≡ false
no_fault_passes tab OutOfRange = refl
no_fault_passes tab (RuleBroken i) = refl

module _ (ws : List ℕ) (l : length ws ≡ 259) {t : Table} (p : t ≡ table_in ws) where
  passed : done (table_of t) ≡ rules.check (table_of t) → done t ≡ table_at ws
  passed e = ap done p ∙ sym (at_passed ws l (subst Checked p (record { passes = sym e })))

  broken : (k : TableFault) → answer_of (table_of t) (Err k) ≡ rules.check (table_of t) → refused 101 ≡ table_at ws
  broken k e = sym (at_broken ws l (ap (λ u. passes (rules.check (table_of u))) (sym p) ∙ ap passes (sym e) ∙ no_fault_passes (table_of t) k))

pub returns-then-words-ne259 : goal.returns-then-words-ne259
returns-then-words-ne259 c = sym (at_other_length c.args.words.now c.if-words-ne259.true)

pub returns-in-Ok : goal.returns-in-Ok
returns-in-Ok c = passed c.args.words.now c.if-words-ne259.false c.table_of-table.ensures c.in-Ok.ensures

pub returns-in-Err : goal.returns-in-Err
returns-in-Err c = broken c.args.words.now c.if-words-ne259.false c.table_of-table.ensures c.in-Err.field-0 c.in-Err.ensures
