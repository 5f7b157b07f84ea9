-- How large the numbers of a sound common record get: "L needs no refusal".
use mathlib.Core.List.{List, [], ◌∷◌}
use Prim.Native.Nat.{ℕ, suc, ◌*◌, ◌^◌, ◌≤◌, ◌<◌}
use native.Mathlib.Nat.{mul-suc}
use native.Mathlib.Omega.{arith}
use lib.ListN.{length, get_or}
use Rattle.laws.specs.Sums.{total}
use Rattle.rules.specs.Table.{Table}
use Rattle.rules.specs.Common.{Common, L}
use Rattle.rules.specs.Sound.{Sound}

total_within : (m : ℕ) (l : List ℕ) → ((i : ℕ) → get_or l i 0 < m) → total l ≤ m * length l
unfolding total
total_within m [] h = omega arith
total_within m (x ∷ l) h = omega (arith, h 0, total_within m l (λ i. h (suc i)), mul-suc m (length l))

pub L_below : {tab : Table} {c : Common} → Sound tab c → L c ≤ 2 ^ 55
L_below {c = c} s = omega (arith, s.released, s.places, total_within (2 ^ 49) c.E s.E_below)
