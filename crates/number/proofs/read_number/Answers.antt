-- The number reader's loop. The groups read so far make `value`, and the number is what the groups behind them make on top of them, at `scale`.
use mathlib.Core.Path.{◌≡◌, refl, sym, ap, ◌∙◌, subst⁻¹}
use mathlib.Core.List.{List}
use Prim.Native.Nat.{ℕ, ◌+◌, ◌-◌, ◌*◌, ◌^◌, ◌≤◌, ◌<◌}
use native.Mathlib.Omega.{arith}
use borrow.Author.Tests.{false-ltb}
use lib.Pow.{pow_mono, pow-add}
use lib.ListN.{length, drop, get_or}
use Rattle.laws.proofs.Digits.{group_below}
use Rattle.rules.specs.Answer.{refused}
use Rattle.rules.specs.Numbers.{number}
use Rattle.number.specs.Numbers.{number_read, last_group}
use Rattle.number.proofs.Groups.{groups_end, groups_last, groups_over, groups_more, on_top_start, on_top_stop, on_top_more, on_top_last}
use Rattle.number.proofs.read_number.Invariants.{Inv}
use Rattle.number.proofs.read_number.Goals as goal

inv_start : (s : List ℕ) (from : ℕ) → Inv s from 0 1 0
inv_start s from =
    let z : from + 0 ≡ from = omega arith in
    record { place = λ h. absurd (omega arith); scaled = refl; below = omega arith; to_do = λ h. rw z (on_top_start _); over = λ h. absurd (omega arith) }

module _ {s : List ℕ} {from value scale before : ℕ} (v : Inv s from value scale before) where
  inv_over : 9 ≤ before → refused 19 ≡ number_read s (number (drop from s))
  inv_over h = rw (v.over h)

  module _ (k : before < 9) where
    inv_end : length s ≤ from + before → refused 18 ≡ number_read s (number (drop from s))
    inv_end h = sym (rw (v.to_do k, groups_end s (from + before) before h, on_top_stop value scale 18))

    module _ {b : ℕ} (h : from + before < length s) (e : b ≡ get_or s (from + before) 0) where
      inv_last : b < 128 → last_group before (value + scale * b) b (from + before + 1) ≡ number_read s (number (drop from s))
      inv_last l = sym (rw (v.to_do k, groups_last s (from + before) before b h (sym e) l) (on_top_last s value scale before b (from + before) h))

      inv_more : 128 ≤ b → b - 128 < 128 → Inv s from (value + scale * (b - 128)) (scale * 128) (before + 1)
      inv_more l u =
          let n : from + (before + 1) ≡ from + before + 1 = omega arith in
          record {
            place = λ p. omega arith;
            scaled = ap (λ (x : ℕ). x * 128) v.scaled ∙ sym (pow-add 2 (7 * before) 7) ∙ ap (λ (x : ℕ). 2 ^ x) (omega arith);
            below = group_below v.below u;
            to_do = λ m. v.to_do k ∙ rw (n, groups_more s (from + before) before b h (sym e) l (λ o. absurd (omega arith))) (on_top_more _ _ _ _);
            over = λ m. rw (v.to_do k, groups_over s (from + before) before b h (sym e) l (omega arith), on_top_stop value scale 19);
          }

    -- nothing wraps
    inv_scale : scale * 128 ≤ 2 ^ 63
    inv_scale =
        let m : scale ≤ 2 ^ 56 = subst⁻¹ (λ (x : ℕ). x ≤ 2 ^ 56) v.scaled (pow_mono {j = 56} (omega arith)) in
        omega arith

    inv_sum : {low : ℕ} → low < 128 → value + scale * low < 2 ^ 63
    inv_sum l = omega (arith, inv_scale, group_below v.below l)

pub loop-before-init : goal.loop-before-init
loop-before-init c = inv_start _ _

pub returns-in_default : goal.returns-in_default
returns-in_default c = inv_end c.loop-before.invariant c.loop-before-test.true (false-ltb _ _ c.in_default.ensures.lookup.0)

pub overflow_mul-scale : goal.overflow_mul-scale
overflow_mul-scale c = omega (arith, inv_sum c.loop-before.invariant c.loop-before-test.true c.if-group-lt128.true)

pub overflow_add-value : goal.overflow_add-value
overflow_add-value c = omega (arith, inv_sum c.loop-before.invariant c.loop-before-test.true c.if-group-lt128.true)

pub returns-then-group-lt128 : goal.returns-then-group-lt128
returns-then-group-lt128 c =
    let byte = c.in-Some.ensures.lookup.3 in
    c.last_group.ensures ∙ inv_last c.loop-before.invariant c.loop-before-test.true byte.0 (c.from-group.ensures ∙ byte.1 0) c.if-group-lt128.true

low : (c : goal.Else-group-lt128) → c.from-group.result - 128 < 128
low c = omega (arith, c.from-group.ensures, c.in-Some.ensures.lookup.3.1 0, c.type_inv.bytes (c.args.from + c.loop-before.before))

pub overflow_mul-value : goal.overflow_mul-value
overflow_mul-value c = omega (arith, inv_sum c.loop-before.invariant c.loop-before-test.true (low c))

pub overflow_add-value-in-loop-before : goal.overflow_add-value-in-loop-before
overflow_add-value-in-loop-before c = omega (arith, inv_sum c.loop-before.invariant c.loop-before-test.true (low c))

pub overflow_mul-scale-in-loop-before : goal.overflow_mul-scale-in-loop-before
overflow_mul-scale-in-loop-before c = omega (arith, inv_scale c.loop-before.invariant c.loop-before-test.true)

pub loop-before-preserved : goal.loop-before-preserved
loop-before-preserved c =
    let byte = c.in-Some.ensures.lookup.3 in
    inv_more c.loop-before.invariant c.loop-before-test.true byte.0 (c.from-group.ensures ∙ byte.1 0) c.if-group-lt128.false (low c)
