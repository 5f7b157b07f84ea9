-- The store's loop: what is asked is what the stores of the groups of `rest`, from `at` on, still make of the bytes, and `last` is the place of the
-- last group.
use mathlib.Core.Path.{◌≡◌, refl, sym, ap, ◌∙◌}
use mathlib.Core.Logic.{⊎_elim}
use mathlib.Core.List.{List, ◌∷◌}
use Prim.Native.Nat.{ℕ, ◌+◌, ◌-◌, ◌/◌, ◌%◌, ◌^◌, ◌≤◌, ◌<◌}
use native.Mathlib.Omega.{arith}
use native.Mathlib.Numerals.{add-one}
use lib.ListN.{length, set}
use lib.Seq.{sets}
use Rattle.laws.proofs.Digits.{more_left, next_fits}
use Rattle.laws.proofs.Tests.{lt_or_ge}
use Rattle.rules.specs.Numbers.{groups, number_bytes}
use Rattle.rules.proofs.Sizes.{one_group, more_groups, groups_some}
use Rattle.number.proofs.put_number.Invariants.{Inv}
use Rattle.number.proofs.put_number.Goals as goal

inv_start : (bytes : List ℕ) (from value n : ℕ) → value < 2 ^ 63 → n ≡ length (number_bytes value) → Inv bytes from value bytes value (8 + from - from) (from + n - 1) from
inv_start bytes from value n h e =
    let l : 8 + from - from ≡ 8 = omega arith in
    rw l (record { small = h; size = omega (arith, groups_some 8 value); to_do = refl })

module _ {bytes₀ : List ℕ} {from value : ℕ} {bytes : List ℕ} {rest left last at : ℕ} (v : Inv bytes₀ from value bytes rest left last at) where
  inv_more : {next : ℕ} → at < last → next ≡ left - 1 → Inv bytes₀ from value (set bytes at (128 + rest % 128)) (rest / 128) next last (at + 1)
  inv_more h e =
      let m : 128 ≤ rest = ⊎_elim (λ s. absurd (omega (arith, v.size, ap length (one_group left rest s)))) (λ g. g) (lt_or_ge rest 128) in
      let l : 0 < left = more_left left m v.small in
      let g : groups left rest ≡ (128 + rest % 128) ∷ groups (left - 1) (rest / 128) = more_groups left rest m l in
      rw e (record { small = next_fits left l v.small; size = omega (arith, v.size, ap length g); to_do = v.to_do ∙ rw (g, add-one at) })

  -- one group is left
  inv_one : last ≤ at → rest < 128
  inv_one h =
      ⊎_elim
      (λ s. s)
      (λ m. absurd (omega (arith, v.size, ap length (more_groups left rest m (more_left left m v.small)), groups_some (left - 1) (rest / 128))))
      (lt_or_ge rest 128)

  inv_done : last ≤ at → set bytes last rest ≡ sets bytes₀ from (number_bytes value)
  inv_done h =
      let o = one_group left rest (inv_one h) in
      let e : at ≡ last = omega (arith, v.size, ap length o) in
      sym (v.to_do ∙ rw (o, e))

pub overflow_sub-last : goal.overflow_sub-last
overflow_sub-last c = omega (arith, groups_some 8 c.args.value, c.number_size.ensures.0)

pub loop-at-init : goal.loop-at-init
loop-at-init c = inv_start _ _ _ _ c.requires.0 c.number_size.ensures.0

pub loop-at-preserved : goal.loop-at-preserved
loop-at-preserved c = inv_more c.loop-at.invariant c.loop-at-test.true (omega arith)

pub overflow_cast-bytes-2 : goal.overflow_cast-bytes-2
overflow_cast-bytes-2 c = omega (arith, inv_one c.loop-at.invariant c.loop-at-test.false)

pub bounds-bytes-last : goal.bounds-bytes-last
bounds-bytes-last c = omega (arith, groups_some 8 c.args.value, c.number_size.ensures.0, c.requires.1, c.loop-at.auto.bytes)

pub returns : goal.returns
returns c = (omega (arith, groups_some 8 c.args.value, c.number_size.ensures.0), inv_done c.loop-at.invariant c.loop-at-test.false)
