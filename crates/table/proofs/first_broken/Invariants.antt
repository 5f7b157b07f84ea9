-- The loop of `first_broken`: the first of the tasks from i on that breaks a rule, and the largest C of them.
use mathlib.Core.Path.{◌≡◌, sym, ap}
use mathlib.Core.Bool.{Bool, true, false, not}
use mathlib.Core.List.{List}
use Prim.Native.Nat.{ℕ, ◌+◌, ◌-◌, ◌≤◌, ◌<◌, max}
use native.Mathlib.Omega.{arith}
use lib.ListN.{get_or}
use Rattle.laws.proofs.First.{First, first_is, first_end, first_down}
use Rattle.table.specs.Check.{keeps_numbers, keeps_at, largest_from, first_breaking}
use Rattle.table.proofs.Rules.{largest_none, largest_next}
use Rattle.table.proofs.first_broken.Given as goal

module _ (longest distance deadline slack : List ℕ) (timeout count : ℕ) where
  abbrev pub breaks : ℕ → Bool
  breaks i = not (keeps_at longest distance deadline slack timeout count i)

  pub record Inv (first top i : ℕ) : Type 0 where
    pub few : count ≤ 64
    pub to : i ≤ count
    pub is_first : First breaks count i first
    pub is_largest : top ≡ largest_from longest i count

  pub inv_start : count ≤ 64 → Inv count 0 count
  inv_start h = record { few = h; to = omega arith; is_first = first_end breaks count; is_largest = sym (largest_none longest count) }

  module _ {first top i : ℕ} (v : Inv first top i) where
    pub inv_end : i ≤ 0 → first ≡ first_breaking longest distance deadline slack timeout count
    unfolding first_breaking
    inv_end h =
        let e : i ≡ 0 = omega arith in
        first_is breaks count (rw e at v.is_first)

    module _ (h : 0 < i) where
      pub inv_known : i - 1 < 64
      inv_known = omega (arith, v.few, v.to)

      module _ {keeps : Bool}
          (p : keeps ≡ keeps_numbers timeout top
          (record { C = get_or longest (i - 1) 0; T = get_or distance (i - 1) 0; D = get_or deadline (i - 1) 0; S = get_or slack (i - 1) 0 })) where
        pub kept : breaks (i - 1) ≡ not keeps
        kept =
            let e : i - 1 + 1 ≡ i = omega arith in
            rw (e, ← v.is_largest) (ap not (sym p))

        module _ {m : ℕ} (s : m ≡ max (get_or longest (i - 1) 0) top) where
          largest : m ≡ largest_from longest (i - 1) count
          largest = omega (arith, s, v.is_largest, largest_next longest count i h v.to)

          pub inv_kept : {r : ℕ} → keeps ≡ true → r ≡ first → Inv r m (i - 1)
          inv_kept k e = record {
            few = v.few;
            to = omega (arith, v.to);
            is_first = rw e (first_down breaks count v.is_first h v.to true (rw k at kept));
            is_largest = largest;
          }

          pub inv_broken : {r : ℕ} → keeps ≡ false → r ≡ i - 1 → Inv r m (i - 1)
          inv_broken k e = record {
            few = v.few;
            to = omega (arith, v.to);
            is_first = rw e (first_down breaks count v.is_first h v.to false (rw k at kept));
            is_largest = largest;
          }

abbrev pub invariant-loop-i : goal.invariant-loop-i
invariant-loop-i l = Inv l.longest l.distance l.deadline l.slack l.timeout l.count l.first l.top l.i
