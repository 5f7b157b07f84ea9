-- The digits put in from the last: the last ones of the rest are still to be put before them.
use mathlib.Core.Path.{◌≡◌, sym, ap, ◌∙◌}
use mathlib.Core.List.{List}
use Prim.Native.Nat.{ℕ, zero, suc, ◌+◌, ◌-◌, ◌/◌, ◌%◌, ◌≤◌, ◌<◌}
use native.Mathlib.Omega.{arith}
use lib.ListN.{length, set}
use lib.Seq.{sets}
use Rattle.laws.proofs.Runs.{sets_last}
use Rattle.rules.specs.Session.{decimal}
use Rattle.lines.specs.Text.{Put}
use Rattle.lines.proofs.Decimal.{last_digits, length_last, decimal_last}
use Rattle.lines.proofs.text.put_decimal.Goals as goal

all_left : (buf : List ℕ) (from n size : ℕ) → size ≡ length (decimal n) → sets buf from (decimal n) ≡ sets buf from (last_digits (from + size - from) n)
all_left buf from n size e =
    let k : from + size - from ≡ length (decimal n) = omega arith in
    ap (sets buf from) (decimal_last n) ∙ rw k

module _ (buf₀ xs buf : List ℕ) (from at rest : ℕ) (p : sets buf₀ from xs ≡ sets buf from (last_digits (at - from) rest)) where
  one_less : from < at → sets buf₀ from xs ≡ sets (set buf (at - 1) (48 + rest % 10)) from (last_digits (at - 1 - from) (rest / 10))
  unfolding last_digits
  one_less h =
      let before : List ℕ = last_digits (at - 1 - from) (rest / 10) in
      let k : at - from ≡ suc (at - 1 - from) = omega arith in
      let here : from + length before ≡ at - 1 = omega (arith, length_last (at - 1 - from) (rest / 10)) in
      (rw k at p) ∙ sets_last buf from before (48 + rest % 10) ∙ ap (λ i. sets (set buf i (48 + rest % 10)) from before) here

  none_left : {size : ℕ} → at ≤ from → size ≡ length xs → Put buf₀ from xs buf (from + size)
  unfolding last_digits
  none_left h e =
      let k : at - from ≡ zero = omega arith in
      record { content = sym (rw k at p); place = omega arith }

pub loop-at-init : goal.loop-at-init
loop-at-init c = search all_left

pub loop-at-preserved : goal.loop-at-preserved
loop-at-preserved c = search one_less

pub returns : goal.returns
returns c = search none_left
