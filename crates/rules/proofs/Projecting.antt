-- The projection, position by position, and how large it can be.
use mathlib.Core.Path.{◌≡◌}
use Prim.Native.Nat.{ℕ, ◌+◌, ◌-◌, ◌*◌, ◌^◌, ◌≤◌, ◌<◌}
use native.Mathlib.Omega.{arith}
use lib.ListN.{length, take, get_or, length-take}
use Rattle.laws.specs.Sums.{total}
use Rattle.laws.proofs.Sums.{total_next, total_mono, total_below}
use Rattle.rules.specs.Table.{Table, task}
use Rattle.rules.specs.Common.{Job, Common, no_job, L, job_at, projection}
use Rattle.rules.specs.Sound.{Sound}
use Rattle.rules.proofs.Tables.{Fit, limits}

module _ (tab : Table) (c : Common) where
  abbrev cost : Job → ℕ
  cost j = (task tab j.task_of).C

  -- "Of B it is W."
  pub projection_base : projection tab c c.B ≡ c.W
  unfolding projection total
  projection_base =
      let e : c.B - c.B ≡ 0 = omega arith in
      rw e (omega arith)

  -- one job on from B + k, as a loop over the kept jobs has it
  pub projection_next : (k : ℕ) (d : Job) → k < length c.kept
      → projection tab c (c.B + (k + 1)) ≡ projection tab c (c.B + k) + (task tab (get_or c.kept k d).task_of).C
  unfolding projection
  projection_next k d h =
      let e : c.B + (k + 1) - c.B ≡ k + 1 = omega arith in
      let f : c.B + k - c.B ≡ k = omega arith in
      rw (e, f) (omega (arith, total_next cost c.kept k d h))

  -- one job on from a position
  pub projection_on : (p : ℕ) → c.B ≤ p → p < L c → projection tab c (p + 1) ≡ projection tab c p + (task tab (job_at c (p + 1)).task_of).C
  projection_on p b l =
      let k : p + 1 - c.B - 1 ≡ p - c.B = omega arith in
      let e : c.B + (p - c.B + 1) ≡ p + 1 = omega arith in
      let f : c.B + (p - c.B) ≡ p = omega arith in
      let n = projection_next (p - c.B) no_job (omega arith) in
      rw k (rw (e, f) at n)

  pub projection_mono : {p q : ℕ} → p ≤ q → projection tab c p ≤ projection tab c q
  unfolding projection
  projection_mono {p} {q} h =
      let k : p - c.B ≤ q - c.B = omega arith in
      omega (arith, total_mono cost c.kept (p - c.B) (q - c.B) k)

  pub projection_begins : (p : ℕ) → c.W ≤ projection tab c p
  unfolding projection
  projection_begins p = omega arith

-- 256 jobs of a C that is at most 4,294,967,295
pub projection_most : {tab : Table} (c : Common) → Fit tab → length c.kept ≤ 256 → (p : ℕ) → projection tab c p ≤ c.W + 256 * 4294967295
unfolding projection
projection_most {tab} c f h p =
    let n : length (take (p - c.B) c.kept) ≤ 256 = simp length-take (omega arith) in
    omega (arith, total_below (cost tab c) 4294967295 (λ j. (limits f j.task_of).C_small) (take (p - c.B) c.kept))

pub projection_below : {tab : Table} {c : Common} → Fit tab → Sound tab c → (p : ℕ) → projection tab c p < 2 ^ 50
projection_below {tab} {c} f s p = omega (arith, projection_most c f s.few p, s.W_below)
