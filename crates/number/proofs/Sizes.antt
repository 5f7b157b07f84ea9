-- The size of a number by its highest bit: a group for each seven bits up to it.
use mathlib.Core.Path.{◌≡◌, ap, ◌∙◌}
use mathlib.Core.Logic.{⊎_elim}
use Prim.Native.Nat.{ℕ, zero, suc, ◌+◌, ◌-◌, ◌*◌, ◌/◌, ◌^◌, ◌≤◌, ◌<◌}
use native.Mathlib.Omega.{arith}
use lib.Pow.{pow_mono, pow-add}
use lib.ListN.{length}
use Rattle.std.specs.Prelude.{max}
use Rattle.laws.proofs.Tests.{lt_or_ge}
use Rattle.laws.proofs.Digits.{next_fits}
use Rattle.rules.specs.Numbers.{groups, number_bytes}
use Rattle.rules.proofs.Sizes.{one_group, more_groups, groups_size}

-- bit k is the highest of a number, and bit 0 is that of the number 0: one group, and one more than the groups above the lowest
size_one : (left v k : ℕ) → v < 128 → 2 ^ k ≤ max v 1 → k / 7 + 1 ≡ length (groups left v)
size_one left v k h low =
    let s : k < 7 = ⊎_elim (λ l. l) (λ g. absurd (omega (arith, pow_mono {i = 7} {j = k} g))) (lt_or_ge k 7) in
    omega (arith, ap length (one_group left v h))

size_more :
    (left v k : ℕ) → 128 ≤ v → v < 128 ^ suc (suc left) → 2 ^ k ≤ max v 1 → max v 1 < 2 * 2 ^ k
    → (v / 128 < 128 ^ suc left → 2 ^ (k - 7) ≤ max (v / 128) 1 → max (v / 128) 1 < 2 * 2 ^ (k - 7) → (k - 7) / 7 + 1 ≡ length (groups left (v / 128)))
    → k / 7 + 1 ≡ length (groups (suc left) v)
size_more left v k l h low high next =
    let s : 7 ≤ k = ⊎_elim (λ m. absurd (omega (arith, pow_mono {i = k} {j = 6} (omega arith)))) (λ g. g) (lt_or_ge k 7) in
    let e : 2 ^ k ≡ 2 ^ (k - 7) * 128 = ap (λ (x : ℕ). 2 ^ x) (omega arith) ∙ pow-add 2 (k - 7) 7 in
    let d : suc left - 1 ≡ left = omega arith in
    let f : v / 128 < 128 ^ suc left = rw d at (next_fits (suc left) (omega arith) h) in
    omega (arith, next f (omega arith) (omega arith), ap length (rw d at (more_groups (suc left) v l (omega arith))))

size_by : (left v k : ℕ) → v < 128 ^ suc left → 2 ^ k ≤ max v 1 → max v 1 < 2 * 2 ^ k → k / 7 + 1 ≡ length (groups left v)
size_by zero v k h low high = size_one zero v k (omega arith) low
size_by (suc left) v k h low high =
    ⊎_elim (λ l. size_one (suc left) v k l low) (λ l. size_more left v k l h low high (size_by left (v / 128) (k - 7))) (lt_or_ge v 128)

pub size_is : (v k : ℕ) → v < 2 ^ 63 → 2 ^ k ≤ max v 1 → max v 1 < 2 * 2 ^ k → (k / 7 + 1 ≡ length (number_bytes v)) × (k / 7 + 1 ≤ 9)
size_is v k h low high =
    let e = size_by 8 v k h low high in
    (e, omega (arith, e, groups_size 8 v))
