-- The jobs kept are known tasks, so the chain may look each up; its sum is the definition's, and small.
use mathlib.Core.Path.{◌≡◌, sym, ap, refl, ◌∙◌}
use mathlib.Core.List.{List, map}
use Prim.Native.Nat.{ℕ, ◌+◌, ◌^◌, ◌≤◌, ◌<◌}
use native.Mathlib.Omega.{arith}
use lib.ListN.{length, take, get_or}
use Rattle.std.proofs.Common.{rules, tests, sum_by}
use Rattle.std.proofs.lemmas.List.{get_or-take, get_or_read, length-take}
use Rattle.std.proofs.lemmas.List.Recursion.{is_sum_by}
use Rattle.std.proofs.lemmas.Iterator.{YieldsList-from_slice, YieldsList-from_map}
use Rattle.std.proofs.lemmas.Iterator.Adapters.{serves_from_places}
use Rattle.std.proofs.lemmas.Iterator.Consumers.{sum_by_from_yields_List, fits_by_from_yields_list}
use Rattle.laws.specs.Sums.{total}
use Rattle.laws.proofs.Sequences.{rows_take}
use Rattle.common.specs.Raw.{projected_at, Summable}
use Rattle.common.proofs.Summing.{projected_below}
use Rattle.common.proofs.projected.Goals as goal

module _ (longest tasks : List ℕ) (start n : ℕ) where
  abbrev cost : ℕ → ℕ
  cost i = get_or longest i 0

  sum_is : n ≤ length tasks → start + sum_by cost (take n tasks) ≡ projected_at longest tasks start n
  unfolding projected_at total
  sum_is h =
      ap (λ (s : ℕ). start + s)
      (sym (is_sum_by (λ is. total (map cost is)) cost refl (λ _ _. refl) (take n tasks)) ∙ ap total (rows_take cost tasks 0 n h))

  module _ (s : Summable longest tasks start n) where
    small : projected_at longest tasks start n < 2 ^ 64
    small = omega (arith, projected_below s n (omega arith), s.few, s.soon)

    fits : length tasks ≡ 256 → sum_by cost (take n tasks) < 2 ^ 64
    fits h = omega (arith, sum_is (omega (arith, s.few)), small)

    known : length tasks ≡ 256 → (i k : ℕ) → k < length (take n tasks) → i ≡ get_or (take n tasks) k i → i < 64
    known h i k l e =
        let w : k < n = omega (arith, length-take n tasks) in
        omega (arith, get_or_read (take n tasks) k i l e 0, get_or-take n tasks k 0 w, s.known k w)

pub sum-work-requires-clause-can : goal.sum-work-requires-clause-can
sum-work-requires-clause-can c =
    let there = known c.args.longest.now c.args.tasks.now c.args.start c.args.n c.requires c.told-tasks in (
      tt,
      serves_from_places {all = take c.args.n c.args.tasks.now} (YieldsList-from_slice _ cc) (λ x q k. search (rules, tests))
          (λ x k l e. let h : x.now < 64 = there x.now k l e in search rules),
    )

pub sum-work-requires-clause-fits : goal.sum-work-requires-clause-fits
sum-work-requires-clause-fits c =
    let each = cost c.args.longest.now c.args.tasks.now c.args.start c.args.n in
    fits_by_from_yields_list each (take c.args.n c.args.tasks.now) c.map.result _
    (YieldsList-from_map _ each (YieldsList-from_slice _ cc) c.map.ensures.closure (λ x r q k. search (rules, tests)))
    (omega (arith, fits c.args.longest.now c.args.tasks.now c.args.start c.args.n c.requires c.told-tasks))

work_is : (c : goal.After-sum-work) → c.args.start + c.sum-work.result ≡ projected_at c.args.longest.now c.args.tasks.now c.args.start c.args.n
work_is c =
    let each = cost c.args.longest.now c.args.tasks.now c.args.start c.args.n in
    ap (λ (s : ℕ). c.args.start + s)
    (sum_by_from_yields_List each (take c.args.n c.args.tasks.now) c.map.result c.sum-work.result c.sum-work.ensures.ran
    (YieldsList-from_map _ each (YieldsList-from_slice _ cc) c.map.ensures.closure (λ x r q k. search (rules, tests))))
    ∙ sum_is c.args.longest.now c.args.tasks.now c.args.start c.args.n (omega arith)

pub overflow_add-result : goal.overflow_add-result
overflow_add-result c =
    let s = c.requires in
    search (rules, small c.args.longest.now c.args.tasks.now c.args.start c.args.n s, work_is c)

pub returns : goal.returns
returns c = work_is c
