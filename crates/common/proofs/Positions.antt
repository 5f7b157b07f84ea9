-- A position of a record that was given back: what the arrays say there is what the rules say.
use mathlib.Core.Path.{◌≡◌, sym, ◌∙◌}
use Prim.Native.Nat.{ℕ, ◌+◌, ◌-◌, ◌≤◌}
use native.Mathlib.Omega.{arith}
use lib.ListN.{get_or}
use Rattle.rules.specs.Common as rules
use Rattle.table.specs.Table.{table_of}
use Rattle.table.specs.declared.Table.{Table}
use Rattle.common.specs.declared.Common.{Common}
use Rattle.std.specs.Prelude.{Option}
use Rattle.common.specs.Common.{common_of}
use Rattle.common.specs.Positions.{Projectable, Occupied}
use Rattle.common.specs.Raw.{projected_at, breaker_at, breach_of, Summable, Boundable}
use Rattle.common.proofs.Records.{length_is}
use Rattle.common.proofs.Raw.{projection_raw, breaker_raw, summable, boundable}

module _ {t : Table} {c : Common} {p : ℕ} (v : Projectable t c p) where
  here : p ≤ c.base + c.count
  here = omega (arith, v.to, length_is v.common)

  pub may_sum : Summable t.longest c.tasks c.start (p - c.base)
  may_sum = summable v.table v.common (p - c.base) (omega (arith, here))

  pub sum_is : {end : ℕ} → end ≡ projected_at t.longest c.tasks c.start (p - c.base) → end ≡ rules.projection (table_of t) (common_of c) p
  sum_is e = e ∙ sym (projection_raw v.common p here)

module _ {t : Table} {c : Common} {p time : ℕ} (v : Occupied t c p time) where
  pub has_projection : Projectable t c p
  has_projection = record { table = v.table; common = v.common; from = omega (arith, v.past); to = v.to }

  pub may_sum_there : Summable t.longest c.tasks c.start (p - c.base)
  may_sum_there = may_sum has_projection

  pub may_test : Boundable c.earliest t.slack t.count time
  may_test = boundable v.table v.common time v.soon

  pub bound_is : {end : ℕ} → end ≡ projected_at t.longest c.tasks c.start (p - c.base) → {task : ℕ} → task ≡ get_or c.tasks (p - c.base - 1) 0
      → {r : Option ℕ} → r ≡ breach_of (breaker_at c.earliest t.slack t.count task end time) → r ≡ breach_of (rules.breaker (table_of t) (common_of c) p time)
  bound_is e k q =
      rw (breaker_raw v.common p time v.past (here has_projection), ← (sum_is has_projection e), ← k) q
