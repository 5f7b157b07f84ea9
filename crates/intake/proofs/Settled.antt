-- What follows from the contract of the table's reading alone: the reply is one, and a table that was read is checked and its bytes lie within those lent.
use mathlib.Core.Path.{◌≡◌, refl, sym, ap, subst, ◌∙◌}
use mathlib.Core.Bool.{Bool, true, false, not}
use mathlib.Core.List.{List}
use Prim.Native.Nat.{ℕ, ◌≤◌, ◌<◌}
use native.Mathlib.Omega.{arith}
use lib.ListN.{length}
use Rattle.laws.specs.Search.{lowest}
use Rattle.rules.specs.Answer.{Answer, done, refused, refused_by, refuse◌if◌else◌}
use Rattle.rules.specs.Table as rules
use Rattle.rules.specs.Numbers.{Read, Reads, after, number}
use Rattle.rules.specs.Written.{times}
use Rattle.rules.specs.Session.{read_task, read_table}
use Rattle.rules.proofs.Answers.{same_done, passed, passed_naming}
use Rattle.table.specs.Table.{table_of, Checked}
use Rattle.table.specs.declared.Table.{Table}
use Rattle.std.specs.Prelude.{Result}
use Rattle.refusal.specs.declared.Refusal.{Refusal}
use Rattle.refusal.specs.Refusal.{answer_of}
use Rattle.refusal.proofs.Same.{settled}
use Rattle.refusal.proofs.Answers.{done_same, done_refused, refused_same}
use Rattle.intake.specs.Table.{table_read, under, answered, checked_tasks}
use Rattle.intake.proofs.Tasks.{table_back}
use Rattle.intake.proofs.Parts.{table_parts}
use Rattle.intake.proofs.Final.{Short, table_window}

pub read_table_settled :
    (bytes : List ℕ) {r s : Result (Table × ℕ) Refusal} → answer_of r ≡ table_read bytes (read_table bytes) → answer_of s ≡ table_read bytes (read_table bytes) → r ≡ s
read_table_settled bytes p q = settled p q

-- what the check lets pass is the table that it was given
abbrev Kept : Answer (Read rules.Table) → Type 0
Kept (done x) = rules.check x.value ≡ done x.value
Kept (refused n) = Unit {0}
Kept (refused_by n i) = Unit {0}

kept_after : {A : Type 0} (a : Answer (Read A)) (f : A → Reads rules.Table) → ((x : A) (s : List ℕ) → Kept (f x s)) → Kept (after a f)
kept_after (done x) f h = h x.value x.rest
kept_after (refused n) f h = tt
kept_after (refused_by n i) f h = tt

kept_refuse : (n : ℕ) (b : Bool) (a : Answer (Read rules.Table)) → Kept a → Kept (refuse n if b else a)
kept_refuse n true a h = tt
kept_refuse n false a h = h

check_same : (tab : rules.Table) {t : rules.Table} → rules.check tab ≡ done t → tab ≡ t
unfolding rules.check
check_same tab e = same_done (passed_naming 2 (lowest (λ i. not (rules.keeps_rules tab i)) (length tab.tasks)) (passed 1 (rules.out_of_range tab.m tab.timeout (length tab.tasks)) e).1).1

kept_answered : (tab : rules.Table) (s : List ℕ) → Kept (answered s (rules.check tab))
kept_answered tab s = by (rules.check tab) refl
  where
    by : (a : Answer rules.Table) → rules.check tab ≡ a → Kept (answered s a)
    by (done t) e = ap rules.check (sym (check_same tab e)) ∙ e
    by (refused n) e = tt
    by (refused_by n i) e = tt

kept_table : (s : List ℕ) → Kept (read_table s)
kept_table s =
    rw (table_parts s) (kept_after (number s) _ λ m s₁. kept_after (number s₁) _ λ timeout s₂. kept_after (number s₂) _ λ count s₃.
    kept_refuse 1 (rules.out_of_range m timeout count) (checked_tasks m timeout count s₃) (kept_after (times count read_task s₃) _ λ tasks s₄. kept_answered (under m timeout tasks) s₄))

module _ (bytes : List ℕ) {table : Table} {used : ℕ} (p : done (table, used) ≡ table_read bytes (read_table bytes)) where
  pub table_checked : Checked table
  table_checked = by (read_table bytes) p (kept_table bytes)
    where
      by : (a : Answer (Read rules.Table)) → done (table, used) ≡ table_read bytes a → Kept a → Checked table
      by (done x) q k =
          let e : table_of table ≡ x.value = ap (λ (z : Table × ℕ). table_of z.0) (done_same q) ∙ table_back x.value in
          record { passes = subst (λ (t : rules.Table). rules.check t ≡ done t) (sym e) k }
      by (refused n) q k = absurd (done_refused q)
      by (refused_by n i) q k = absurd (done_refused q)

  pub table_within : used ≤ length bytes
  table_within = by (read_table bytes) p
    where
      by : (a : Answer (Read rules.Table)) → done (table, used) ≡ table_read bytes a → used ≤ length bytes
      by (done x) q = omega (arith, ap (λ (z : Table × ℕ). z.1) (done_same q))
      by (refused n) q = absurd (done_refused q)
      by (refused_by n i) q = absurd (done_refused q)

-- 18 is told of few bytes only: there is room for more
pub table_short : (bytes : List ℕ) → refused 18 ≡ table_read bytes (read_table bytes) → length bytes < 2331
table_short bytes p = by (read_table bytes) p (table_window.short bytes)
  where
    by : (a : Answer (Read rules.Table)) → refused 18 ≡ table_read bytes a → Short 2331 bytes a → length bytes < 2331
    by (done x) q h = absurd (done_refused (sym q))
    by (refused n) q h = h (sym (refused_same q))
    by (refused_by n i) q h = h (sym (refused_same q))
