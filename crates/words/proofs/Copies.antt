-- Copies of n numbers into a list from a place on: at once, as `copy_from_slice` makes them, and one by one.
use mathlib.Core.Path.{◌≡◌, sym, ap, ◌∙◌}
use mathlib.Core.List.{List, [], ◌∷◌, ◌++◌, append_assoc}
use Prim.Native.Nat.{ℕ, ◌+◌, ◌≤◌, ◌<◌}
use native.Mathlib.Omega.{arith}
use native.Mathlib.Numerals.{add-one}
use lib.ListN.{length, take, drop, get_or, set, length-take}
use borrow.Rule.Slice.PartMut.{put_mid}
use Rattle.laws.proofs.Runs.{sets_append}
use lib.Seq.{sets, sets-eq, drop-drop, take-suc}

-- a part written at once is the run of stores that the contracts speak of
pub part_put : {A : Type 0} (s xs ys : List A) (from n : ℕ) → from + n ≤ length s → n ≡ length xs → ys ≡ xs → put_mid from n s ys ≡ sets s from xs
part_put s xs ys from n h e p =
    let d : drop n (drop from s) ≡ drop (from + length xs) s = drop-drop n from s ∙ ap (λ (k : ℕ). drop (from + k) s) e in
    rw (p, d) (sym (sets-eq xs s from (omega arith) ∙ append_assoc (take from s) xs (drop (from + length xs) s)))

-- a turn of the loop that stores them one by one: the run so far, and the next behind it
pub one_more : (s xs : List ℕ) (from i x : ℕ) {words : List ℕ} → words ≡ sets s from (take i xs) → i < length xs → x ≡ get_or xs i 0
    → set words (from + i) x ≡ sets s from (take (i + 1) xs)
one_more s xs from i x p h e =
    let t : take (i + 1) xs ≡ take i xs ++ (x ∷ []) = rw (add-one i) (take-suc xs i 0 h ∙ rw e) in
    let n : length (take i xs) ≡ i = rw length-take (omega (arith, h)) in
    rw p (sym (ap (sets s from) t ∙ sets_append s from (take i xs) (x ∷ []) ∙ rw n))
