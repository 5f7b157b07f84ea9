-- The rules of a table, read off its arrays a task at a time, and the answers of the check.
use mathlib.Core.Path.{◌≡◌, refl, ap, ◌∙◌}
use mathlib.Core.Bool.{Bool, true, false, not}
use mathlib.Core.Option.{none, some}
use mathlib.Core.List.{List, [], ◌∷◌, foldr}
use Prim.Native.Nat.{ℕ, zero, suc, ◌+◌, ◌-◌, ◌≤◌, ◌<◌, max}
use native.Mathlib.Omega.{arith}
use native.Mathlib.Numerals.{add-one}
use lib.ListN.{drop, get_or, drop_of_length-le}
use Rattle.laws.specs.Search.{lowest}
use Rattle.laws.specs.Lists.{rows}
use Rattle.laws.proofs.Lists.{length_rows}
use Rattle.laws.proofs.Sequences.{rows_drop, all_append}
use Rattle.rules.specs.Table as rules
use Rattle.table.specs.declared.Table.{Table}
use Rattle.std.specs.Prelude.{Ok, Err}
use Rattle.table.specs.declared.TableFault.TheVariants.{OutOfRange, RuleBroken}
use Rattle.table.specs.Table.{row, table_of}
use Rattle.table.specs.Check.{answer_of, small_numbers, in_order, keeps_numbers, largest_from}
use Rattle.table.proofs.Facts.{tasks_count, task_row}

module _ (longest : List ℕ) (count : ℕ) where
  pub largest_none : largest_from longest count count ≡ 0
  unfolding largest_from
  largest_none =
      let l : ℕ → ℕ = λ k. get_or longest k 0 in
      ap (foldr max 0) (drop_of_length-le (rows l count) {i = count} (omega (arith, length_rows l count)))

  pub largest_next : (k : ℕ) → 0 < k → k ≤ count → largest_from longest (k - 1) count ≡ max (get_or longest (k - 1) 0) (largest_from longest k count)
  unfolding largest_from
  largest_next k h m =
      let e : k - 1 + 1 ≡ k = omega arith in
      let l : ℕ → ℕ = λ i. get_or longest i 0 in
      ap (foldr max 0) (rows_drop l count (k - 1) (omega arith)) ∙ ap (λ i. max (l (k - 1)) (foldr max 0 (drop i (rows l count)))) e

largest_of : (f : ℕ → rules.Task) (n i : ℕ) → foldr (λ k c. max k.C c) 0 (drop i (rows f n)) ≡ foldr max 0 (drop i (rows (λ k. (f k).C) n))
unfolding rows
largest_of f zero zero = refl
largest_of f zero (suc i) = refl
largest_of f (suc n) zero = ap (max (f 0).C) (largest_of (λ i. f (suc i)) n 0)
largest_of f (suc n) (suc i) = largest_of (λ i. f (suc i)) n i

pub lower_is : (t : Table) (i : ℕ) → rules.largest_lower_C (table_of t) i ≡ largest_from t.longest (i + 1) t.count
unfolding rules.largest_lower_C largest_from
lower_is t i = rw (add-one i) (largest_of (row t) t.count (suc i))

pub keeps_is : (t : Table) (i : ℕ) → i < t.count → rules.keeps_rules (table_of t) i ≡ keeps_numbers t.timeout (largest_from t.longest (i + 1) t.count) (row t i)
unfolding rules.keeps_rules small_numbers in_order
keeps_is t i h = rw (task_row t i h, lower_is t i) (all_append (_ ∷ _ ∷ _ ∷ _ ∷ []) _)

-- a task breaks a rule
unfoldable pub breaks_rule : Table → ℕ → Bool
breaks_rule t i = not (rules.keeps_rules (table_of t) i)

module _ (t : Table) where
  pub out_refused : rules.out_of_range t.nodes t.timeout t.count ≡ true → answer_of (table_of t) (Err OutOfRange) ≡ rules.check (table_of t)
  unfolding rules.check
  out_refused e = rw (tasks_count t, e)

  module _ (e : rules.out_of_range t.nodes t.timeout t.count ≡ false) where
    pub rule_refused : (i : ℕ) → lowest (breaks_rule t) t.count ≡ some i → answer_of (table_of t) (Err (RuleBroken i)) ≡ rules.check (table_of t)
    unfolding rules.check breaks_rule
    rule_refused i h = rw (tasks_count t, e, h)

    pub all_kept : lowest (breaks_rule t) t.count ≡ none → answer_of (table_of t) (Ok tt) ≡ rules.check (table_of t)
    unfolding rules.check breaks_rule
    all_kept h = rw (tasks_count t, e, h)
