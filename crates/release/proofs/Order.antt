-- Laws of the insertion on tasks: it is the rules' insertion of jobs, and the array stays packed.
--     packed-long, packed-pad, packed-kept     an array with its first n places in use
--     place-within, put-long, put-packed       one release
--     put-none, put-more, put-all-long         a list, release by release
--     insert-is                                the rules' insertion
use mathlib.Core.Path.{◌≡◌, refl, sym, ap, ◌∙◌}
use mathlib.Core.Bool.{not}
use mathlib.Core.List.{List, [], ◌∷◌, map}
use Prim.Native.Nat.{ℕ, ◌+◌, ◌≤◌, ◌<◌}
use native.Mathlib.Omega.{arith}
use lib.ListN.{length, take, drop, length-take, length-drop, length-append}
use lib.Seq.{length-take-le}
use Rattle.laws.specs.Tests.{◌<?◌}
use Rattle.laws.specs.Lists.{pad, push_in}
use Rattle.laws.proofs.Search.{up_to_last_le}
use Rattle.laws.proofs.Lists.{length_pad, take_pad, pad_push, map_append, map_take, map_drop}
use Rattle.laws.proofs.Insertion.{last_map}
use Rattle.rules.specs.Table.{Table}
use Rattle.rules.specs.Judge.{Release}
use Rattle.rules.specs.Insert.{place, insert}
use Rattle.common.specs.Common.{job_of}
use Rattle.release.specs.Insertion.{place_in, put_in, put_all, Packed}

module _ {tasks : List ℕ} {n : ℕ} (v : Packed tasks n) where
  pub packed_long : length tasks ≡ 256
  packed_long = ap length v.exact ∙ length_pad 256 0 (take n tasks) (simp length-take (omega (arith, v.few)))

  pub packed_kept : length (take n tasks) ≡ n
  packed_kept = length-take-le n tasks (omega (arith, packed_long, v.few))

-- a list in an array is packed
pub packed_pad : (l : List ℕ) {n : ℕ} → length l ≡ n → n ≤ 256 → (take n (pad 256 0 l) ≡ l) × Packed (pad 256 0 l) n
packed_pad l {n} e h =
    let t : take n (pad 256 0 l) ≡ l = rw (← e) (take_pad 256 0 l) in
    (t, record { few = h; exact = sym (ap (pad 256 0) t) })

module _ (i n : ℕ) (l : List ℕ) (h : n ≤ length l) where
  pub place_within : place_in i n l ≤ length l
  unfolding place_in
  place_within = omega (arith, up_to_last_le (λ j. not (i <? j)) (drop n l), length-drop n l)

  pub put_long : length (put_in i n l) ≡ length l + 1
  unfolding put_in
  put_long = simp (length-append, length-take, length-drop) (omega (arith, place_within))

  -- the array after the push
  pub put_packed : length l < 256 → push_in (pad 256 0 l) (length l) (place_in i n l) i ≡ pad 256 0 (put_in i n l)
  unfolding put_in
  put_packed m = pad_push 256 0 l (place_in i n l) i m place_within

module _ (n : ℕ) (l : List ℕ) where
  pub put_none : put_all n l [] ≡ l
  unfolding put_all
  put_none = refl

  pub put_more : (x : Release) (xs : List Release) → put_all n l (x ∷ xs) ≡ put_all n (put_in x.task_of n l) xs
  unfolding put_all
  put_more x xs = refl

pub put_all_long : (n : ℕ) (l : List ℕ) (xs : List Release) → n ≤ length l → length (put_all n l xs) ≡ length l + length xs
put_all_long n l [] h = ap length (put_none n l) ∙ omega arith
put_all_long n l (x ∷ xs) h =
    let one : length (put_in x.task_of n l) ≡ length l + 1 = put_long x.task_of n l h in
    ap length (put_more n l x xs) ∙ put_all_long n (put_in x.task_of n l) xs (omega arith) ∙ omega arith

-- the rules' insertion
module _ (tab : Table) (i t n : ℕ) (l : List ℕ) where
  place_is : place tab i t n (map job_of l) ≡ place_in i n l
  unfolding place place_in
  place_is = ap (λ (k : ℕ). n + k) (rw (← map_drop job_of n l) (last_map (λ j. not (i <? j.task_of)) job_of (drop n l)))

  pub insert_is : insert tab i t n (map job_of l) ≡ map job_of (put_in i n l)
  unfolding insert put_in
  insert_is =
      rw (place_is, map_append job_of (take (place_in i n l) l) (i ∷ drop (place_in i n l) l), map_take job_of (place_in i n l) l, map_drop job_of (place_in i n l) l)
