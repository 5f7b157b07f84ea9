-- A run of bytes put in part by part: what is put, what is left to put, what a run behind a run is, and one over a part.
use mathlib.Core.Path.{◌≡◌, refl, sym, ap, ◌∙◌}
use mathlib.Core.List.{List, [], ◌∷◌, ◌++◌, append_assoc}
use Prim.Native.Nat.{ℕ, ◌+◌, ◌-◌, ◌≤◌, ◌<◌}
use native.Mathlib.Omega.{arith}
use lib.ListN.{length, set, take, drop, get_or, length-append, length-drop, drop_of_length-le}
use lib.Seq.{sets, length-sets, sets-eq}
use borrow.Rule.Slice.PartMut.{put_mid}
use Rattle.std.proofs.lemmas.List.{drop-drop}
use Rattle.laws.proofs.Lists.{drop_here}
use Rattle.laws.proofs.Runs.{sets_append, sets_front}
use Rattle.lines.specs.Text.{Put, Front}

-- a run put over a part as long
pub put_part : (s xs : List ℕ) (from : ℕ) {ys : List ℕ} → from + length xs ≤ length s → ys ≡ xs → Put s from xs (put_mid from (from + length xs - from) s ys) (from + length xs)
put_part s xs from h e =
    let k : from + length xs - from ≡ length xs = omega arith in
    record {
      content = rw (e, k, drop-drop (length xs) from s, ← (append_assoc (take from s) xs (drop (from + length xs) s))) (sym (sets-eq xs s from h));
      place = refl;
    }

-- the whole put into s₀ is what is left, put into s from a place on
pub record Left (s₀ : List ℕ) (from : ℕ) (whole : List ℕ) (s : List ℕ) (at : ℕ) (rest : List ℕ) : Type 0 where
  pub long : length s ≡ length s₀
  pub place : from + length whole ≡ at + length rest
  pub content : sets s₀ from whole ≡ sets s at rest

pub left_all : (s : List ℕ) (from : ℕ) (whole : List ℕ) → Left s from whole s from whole
left_all s from whole = record { long = refl; place = refl; content = refl }

pub put_one : (s : List ℕ) (at x : ℕ) → Put s at (x ∷ []) (set s at x) (at + 1)
put_one s at x = record { content = refl; place = refl }

pub put_long : {s xs s' : List ℕ} {at next : ℕ} → Put s at xs s' next → length s' ≡ length s
put_long {s} {xs} {at = at} p = ap length p.content ∙ length-sets s at xs

module _ {s₀ whole s : List ℕ} {from at : ℕ} where
  pub left_less : {s' : List ℕ} {next : ℕ} (xs ys : List ℕ) → Left s₀ from whole s at (xs ++ ys) → Put s at xs s' next → Left s₀ from whole s' next ys
  left_less xs ys v p = record {
    long = put_long p ∙ v.long;
    place = omega (arith, v.place, p.place, length-append xs ys);
    content = v.content ∙ sets_append s at xs ys ∙ rw (← p.content, ← p.place);
  }

  pub left_none : Left s₀ from whole s at [] → Put s₀ from whole s at
  left_none v = record { content = sym v.content; place = omega (arith, v.place) }

-- two runs, one behind the other
pub put_then : {s xs s' ys s'' : List ℕ} {from at next : ℕ} → Put s from xs s' at → Put s' at ys s'' next → Put s from (xs ++ ys) s'' next
put_then {s} {xs} {s'} {ys} {s''} {from} {at} {next} p q = record {
  content = q.content ∙ rw (p.content, p.place) (sym (sets_append s from xs ys));
  place = omega (arith, p.place, q.place, length-append xs ys);
}

-- a word and its number behind a run
pub put_behind : {s xs s' s'' : List ℕ} {from at next : ℕ} (w d : List ℕ) → Put s from xs s' at → Put s' at (w ++ d) s'' next → Put s from (xs ++ w ++ d) s'' next
put_behind {xs = xs} w d p q = rw (append_assoc xs w d) (put_then p q)

-- a run from the first place on
pub put_front : {s xs s' : List ℕ} {next : ℕ} → Put s 0 xs s' next → next ≤ length s → Front s xs s' next
put_front {s} {xs} p h = record { content = p.content ∙ sets_front xs s (omega (arith, p.place)); count = omega (arith, p.place) }

-- one byte more behind a run
pub put_more : {s xs s' : List ℕ} {from at : ℕ} (x : ℕ) → Put s from xs s' at → Put s from (xs ++ (x ∷ [])) (set s' at x) (at + 1)
put_more x p = put_then p (record { content = refl; place = refl })

-- the bytes of a list put in one by one, counted
pub record Copying (s₀ : List ℕ) (from : ℕ) (whole : List ℕ) (s : List ℕ) (at i : ℕ) : Type 0 where
  pub to : i ≤ length whole
  pub room : from + length whole ≤ length s₀
  pub left : Left s₀ from whole s at (drop i whole)

pub copy_start : {s whole : List ℕ} {from : ℕ} → from + length whole ≤ length s → Copying s from whole s from 0
copy_start {s} {whole} {from} h = record { to = omega arith; room = h; left = left_all s from whole }

module _ {s₀ whole s : List ℕ} {from at i : ℕ} (v : Copying s₀ from whole s at i) where
  pub copy_here : i < length whole → at < length s
  copy_here h = omega (arith, v.room, v.left.long, v.left.place, length-drop i whole)

  pub copy_step : {x : ℕ} (d : ℕ) → i < length whole → get_or whole i d ≡ x → Copying s₀ from whole (set s at x) (at + 1) (i + 1)
  copy_step {x} d h e = record {
    to = omega arith;
    room = v.room;
    left = left_less (x ∷ []) (drop (i + 1) whole) (rw (drop_here whole i d h e) at v.left) (put_one s at x);
  }

  pub copy_end : length whole ≤ i → Put s₀ from whole s at
  copy_end h = left_none (rw (drop_of_length-le whole h) at v.left)
