-- Reading group by group from a place of a list, with what the groups so far make, as the number reader's loop goes.
use Rattle.std.specs.Prelude.{if◌then◌else◌}
use mathlib.Core.Path.{◌≡◌, refl, ap}
use mathlib.Core.List.{List}
use mathlib.Core.Bool.{Bool, true, false, ◌&&◌}
use Prim.Native.Nat.{ℕ, ◌+◌, ◌-◌, ◌*◌, ◌≤◌, ◌<◌}
use native.Mathlib.Nat.{mul-add, mul_assoc, add_assoc}
use native.Mathlib.Omega.{arith}
use borrow.Author.Tests.{lt-ltb, le-ltb, eq-eqb, ne_eqb}
use lib.ListN.{length, drop, get_or, drop_of_length-le, length-drop}
use Rattle.laws.specs.Tests.{◌<?◌, ◌=?◌}
use Rattle.laws.proofs.Lists.{drop_here}
use Rattle.rules.specs.Answer.{Answer, done, refused, refused_by, refuse◌if◌else◌}
use Rattle.rules.specs.Numbers.{Read, after, give, groups_after}
use Rattle.number.specs.Numbers.{number_read, last_group}

-- at a place of a list, with k groups before it
module _ (s : List ℕ) (i k : ℕ) where
  pub groups_end : length s ≤ i → groups_after k (drop i s) ≡ refused 18
  unfolding groups_after
  groups_end h = rw (drop_of_length-le s h)

  module _ (b : ℕ) (h : i < length s) (e : get_or s i 0 ≡ b) where
    pub groups_last : b < 128 → groups_after k (drop i s) ≡ refuse 19 if (0 <? k) && (b =? 0) else give b (drop (i + 1) s)
    unfolding groups_after
    groups_last l = rw (drop_here s i 0 h e, lt-ltb b 128 l)

    pub groups_over : 128 ≤ b → k ≡ 8 → groups_after k (drop i s) ≡ refused 19
    unfolding groups_after
    groups_over l m = rw (drop_here s i 0 h e, le-ltb b 128 l, eq-eqb k 8 m)

    pub groups_more : 128 ≤ b → (k ≡ 8 → ⊥) → groups_after k (drop i s) ≡ after (groups_after (k + 1) (drop (i + 1) s)) (λ v. give (b - 128 + 128 * v))
    unfolding groups_after
    groups_more l m = rw (drop_here s i 0 h e, le-ltb b 128 l, ne_eqb k 8 m)

-- a number of which `value` was read so far, what follows standing at `scale`
unfoldable pub on_top : ℕ → ℕ → Answer (Read ℕ) → Answer (Read ℕ)
on_top value scale a = after a (λ v. give (value + scale * v))

pub on_top_start : (a : Answer (Read ℕ)) → a ≡ on_top 0 1 a
unfolding on_top
on_top_start (done x) = ap (λ (v : ℕ). done (record { value = v; rest = x.rest })) (omega arith)
on_top_start (refused n) = refl
on_top_start (refused_by n i) = refl

pub on_top_stop : (value scale n : ℕ) → on_top value scale (refused n) ≡ refused n
unfolding on_top
on_top_stop value scale n = refl

pub on_top_more : (value scale low : ℕ) (a : Answer (Read ℕ)) → on_top value scale (after a (λ v. give (low + 128 * v))) ≡ on_top (value + scale * low) (scale * 128) a
unfolding on_top
on_top_more value scale low (done x) = ap (λ (v : ℕ). done (record { value = v; rest = x.rest })) (simp (mul-add, mul_assoc, add_assoc))
on_top_more value scale low (refused n) = refl
on_top_more value scale low (refused_by n i) = refl

pub on_top_last : (s : List ℕ) (value scale k b i : ℕ) → i < length s
    → number_read s (on_top value scale (refuse 19 if (0 <? k) && (b =? 0) else give b (drop (i + 1) s))) ≡ last_group k (value + scale * b) b (i + 1)
unfolding on_top
on_top_last s value scale k b i h = by ((0 <? k) && (b =? 0))
  where
    by : (t : Bool) → number_read s (after (refuse 19 if t else give b (drop (i + 1) s)) (λ v. give (value + scale * v)))
        ≡ (if t then refused 19 else done (value + scale * b, i + 1))
    by true = refl
    by false =
        let e : length s - length (drop (i + 1) s) ≡ i + 1 = rw length-drop (omega arith) in
        rw e
