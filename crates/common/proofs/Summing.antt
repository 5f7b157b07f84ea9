-- A loop that carries the sum of the C's along, job by job: what it knows at each job, for every function that has one.
use mathlib.Core.Path.{◌≡◌, sym, ap}
use mathlib.Core.List.{List}
use Prim.Native.Nat.{ℕ, zero, suc, ◌+◌, ◌*◌, ◌^◌, ◌≤◌, ◌<◌}
use native.Mathlib.Omega.{arith}
use native.Mathlib.Numerals.{add-one}
use lib.ListN.{get_or}
use Rattle.common.specs.Raw.{projected_at, Summable}
use Rattle.common.proofs.Arrays.{projected_none, projected_next}

module _ {longest tasks : List ℕ} {start n : ℕ} where
  -- no sum of those asked for is large
  pub projected_below : Summable longest tasks start n → (k : ℕ) → k ≤ n → projected_at longest tasks start k ≤ start + k * 4294967295
  projected_below s zero h = omega (arith, projected_none longest tasks start)
  projected_below s (suc k) h =
      let e : projected_at longest tasks start (suc k) ≡ projected_at longest tasks start (k + 1) = rw (add-one k) in
      omega (arith, e, projected_next longest tasks start k, projected_below s k (omega arith), s.small k (omega arith))

-- the sum of the first k
pub record Summed (longest tasks : List ℕ) (start n end k : ℕ) : Type 0 where
  pub ready : Summable longest tasks start n
  pub to : k ≤ n
  pub is : end ≡ projected_at longest tasks start k

module _ {longest tasks : List ℕ} {start n : ℕ} where
  pub summed_start : Summable longest tasks start n → Summed longest tasks start n start 0
  summed_start s = record { ready = s; to = omega arith; is = sym (projected_none longest tasks start) }

  module _ {end k : ℕ} (v : Summed longest tasks start n end k) where
    pub summed_end : n ≤ k → end ≡ projected_at longest tasks start n
    summed_end h =
        let e : n ≡ k = omega (arith, v.to) in
        rw e v.is

    -- of any of the jobs
    module _ {j i : ℕ} (e : i ≡ get_or tasks j 0) (l : j < n) where
      pub summed_known : i < 64
      summed_known = omega (arith, e, v.ready.known j l)

      pub summed_fits : end + get_or longest i 0 < 2 ^ 64
      summed_fits =
          let small : get_or longest i 0 ≤ 4294967295 = rw e (v.ready.small j l) in
          omega (arith, v.is, projected_below v.ready k v.to, v.ready.few, v.ready.soon)

    -- of the next
    pub summed_next : k < n → {i : ℕ} → i ≡ get_or tasks k 0 → Summed longest tasks start n (end + get_or longest i 0) (k + 1)
    summed_next h e = record {
      ready = v.ready;
      to = omega arith;
      is = omega (arith, v.is, projected_next longest tasks start k, ap (λ (x : ℕ). get_or longest x 0) e);
    }
