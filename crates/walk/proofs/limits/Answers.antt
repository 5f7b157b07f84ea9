-- The loop of `limits`: the first i limits stand in their places, and the least so far is the next.
use mathlib.Core.Path.{◌≡◌, refl, sym}
use mathlib.Core.List.{List, []}
use Prim.Native.Nat.{ℕ, ◌+◌, ◌^◌, ◌≤◌, ◌<◌, min}
use native.Mathlib.Omega.{arith}
use borrow.Author.Rules.{rules}
use lib.ListN.{get_or, set}
use Rattle.laws.specs.Lists.{pad}
use Rattle.laws.proofs.Rows.{no_rows, store_row}
use Rattle.laws.proofs.Least.{least_none, least_next}
use Rattle.common.specs.Raw.{earliest_of, Boundable}
use Rattle.walk.specs.Walk.{never, latest_end, limits_of}
use Rattle.walk.proofs.limits.Invariants.{Inv}
use Rattle.walk.proofs.limits.Goals as goal

module _ {earliest slack : List ℕ} {count t : ℕ} where
  inv_start : Boundable earliest slack count t → {limits : List ℕ} → limits ≡ pad 65 0 [] → Inv earliest slack count t limits never 0
  inv_start b e = record { ready = b; to = omega arith; stored = no_rows _ 65 0 e; is = sym (least_none never _) }

  module _ {limits : List ℕ} {low i : ℕ} (v : Inv earliest slack count t limits low i) where
    inv_place : i < 65
    inv_place = omega (arith, v.ready.few, v.to)

    inv_end : count ≤ i → set limits count low ≡ limits_of earliest slack count t
    inv_end h =
        let e : count ≡ i = omega (arith, v.to) in
        rw e (store_row _ 65 0 v.stored inv_place v.is)

    module _ (h : i < count) where
      inv_slack : get_or slack i 0 < 2 ^ 49
      inv_slack = omega (arith, v.ready.small i h)

      module _ {e : ℕ} (p : e ≡ earliest_of earliest i t) where
        -- with any small number for the slack
        inv_sum : {x : ℕ} → x < 2 ^ 49 → e + x < 2 ^ 64
        unfolding earliest_of
        inv_sum l = omega (arith, p, v.ready.soon i h, v.ready.time)

        inv_next : {r : ℕ} → r ≡ min low (e + get_or slack i 0) → Inv earliest slack count t (set limits i low) r (i + 1)
        unfolding latest_end
        inv_next q = record {
          ready = v.ready;
          to = omega arith;
          stored = store_row _ 65 0 v.stored inv_place v.is;
          is = omega (arith, q, p, v.is, least_next never (latest_end earliest slack t) i);
        }

pub loop-i-init : goal.loop-i-init
unfolding pad
loop-i-init c = inv_start c.requires refl

pub overflow_add-earliest_at : goal.overflow_add-earliest_at
overflow_add-earliest_at c = search (rules, inv_sum, inv_slack)

pub loop-i-preserved : goal.loop-i-preserved
loop-i-preserved c = search inv_next

pub returns : goal.returns
returns c = search inv_end
