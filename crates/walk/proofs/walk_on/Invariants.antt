-- The loop of `walk_on`: the first k ends stand in their places, the sum so far is the next, and no place from `from` on and below k breaks the bound.
use mathlib.Core.Path.{◌≡◌, sym, ap, subst, ◌∙◌}
use mathlib.Core.Bool.{Bool, true, false, ◌&&◌}
use mathlib.Core.List.{List, []}
use Prim.Native.Nat.{ℕ, ◌+◌, ◌^◌, ◌≤◌, ◌<◌, min}
use native.Mathlib.Omega.{arith}
use borrow.Author.Tests.{le-leb, leb-true}
use lib.ListN.{get_or, set}
use Rattle.laws.specs.Tests.{◌<?◌, ◌≤?◌}
use Rattle.laws.specs.Lists.{rows, pad}
use Rattle.laws.specs.Search.{first_from}
use Rattle.laws.proofs.Tests.{and_yes}
use Rattle.laws.proofs.Rows.{no_rows, store_row}
use Rattle.laws.proofs.First.{Clear, clear_start, clear_next, clear_found, clear_end}
use Rattle.common.specs.Raw.{projected_at, Summable}
use Rattle.common.proofs.Summing.{Summed, summed_start, summed_known, summed_fits, summed_next}
use Rattle.walk.specs.Walk.{walked_to, passes_limit}
use Rattle.walk.proofs.walk_on.Given as goal

module _ (longest tasks limits : List ℕ) (start count from kept : ℕ) where
  abbrev pub broken : ℕ → Bool
  broken = passes_limit longest tasks start limits count

  pub record Inv (ends : List ℕ) (end k : ℕ) : Type 0 where
    pub within : from ≤ kept
    pub sum : Summed longest tasks start kept end k
    pub stored : ends ≡ pad 257 0 (rows (projected_at longest tasks start) k)
    pub clear : Clear broken kept from k

  pub inv_start : Summable longest tasks start kept → from ≤ kept → {ends : List ℕ} → ends ≡ pad 257 0 [] → Inv ends start 0
  inv_start s h e = record { within = h; sum = summed_start s; stored = no_rows _ 257 0 e; clear = clear_start broken kept }

  module _ {ends : List ℕ} {end k : ℕ} (v : Inv ends end k) where
    pub inv_place : k < 257
    inv_place = omega (arith, v.sum.ready.few, v.sum.to)

    pub inv_stored : set ends k end ≡ pad 257 0 (rows (projected_at longest tasks start) (k + 1))
    inv_stored = store_row _ 257 0 v.stored inv_place v.sum.is

    -- what is given back where the walk ends at k
    pub ended : k ≡ first_from broken from kept → record { ends = set ends k end; clear = k } ≡ walked_to longest tasks start (first_from broken from kept)
    ended e = λ i. record { ends = (inv_stored ∙ ap (λ (n : ℕ). pad 257 0 (rows (projected_at longest tasks start) (n + 1))) e) i; clear = e i }

    pub inv_end : kept ≤ k → record { ends = set ends kept end; clear = kept } ≡ walked_to longest tasks start (first_from broken from kept)
    inv_end h =
        let e : kept ≡ k = omega (arith, v.sum.to) in
        subst (λ (n : ℕ). record { ends = set ends n end; clear = n } ≡ walked_to longest tasks start (first_from broken from kept)) (sym e)
        (ended (clear_end broken kept v.clear v.within h))

    pub inv_known : {j i : ℕ} → i ≡ get_or tasks j 0 → j < kept → i < 64
    inv_known = summed_known v.sum

    pub inv_fits : {j i : ℕ} → i ≡ get_or tasks j 0 → j < kept → end + get_or longest i 0 < 2 ^ 64
    inv_fits = summed_fits v.sum

    module _ (h : k < kept) {i : ℕ} (e : i ≡ get_or tasks k 0) {b : Bool} (p : b ≡ ((from ≤? k) && (get_or limits (min i count) 0 <? end + get_or longest i 0))) where
      -- the sum is the projection of the place
      pub tested : b ≡ ((from ≤? k) && broken k)
      tested =
          let s : end + get_or longest i 0 ≡ projected_at longest tasks start (k + 1) = (summed_next v.sum h e).is in
          p ∙ rw (s, e)

      pub inv_found : b ≡ true → record { ends = set ends k end; clear = k } ≡ walked_to longest tasks start (first_from broken from kept)
      inv_found t =
          let both = and_yes (from ≤? k) (broken k) (sym tested ∙ t) in
          ended (clear_found broken kept v.clear (leb-true from k both.0) both.1)

      pub inv_next : b ≡ false → Inv (set ends k end) (end + get_or longest i 0) (k + 1)
      inv_next t = record {
        within = v.within;
        sum = summed_next v.sum h e;
        stored = inv_stored;
        clear = clear_next broken kept v.clear h (λ l. let y = le-leb from k l in sym (rw y at tested) ∙ t);
      }

abbrev pub invariant-loop-k : goal.invariant-loop-k
invariant-loop-k l = Inv l.longest l.tasks l.limits l.start l.count l.from l.kept l.ends l.end l.k
