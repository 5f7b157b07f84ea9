-- The elements of a list stored one behind the other, each as so many words, over the first words of a lent list: once for releases and entries.
use mathlib.Core.Path.{◌≡◌, refl, sym, ap, ap₂, ◌∙◌}
use mathlib.Core.Option.{Option, none, some}
use mathlib.Core.List.{List, [], ◌∷◌, ◌++◌, append_assoc}
use Prim.Native.Nat.{ℕ, ◌+◌, ◌*◌, ◌≤◌, ◌<◌}
use native.Mathlib.Nat.{mul-suc, mul-zero, mul-le-mul_left}
use native.Mathlib.Omega.{arith}
use native.Mathlib.Numerals.{add-one}
use lib.ListN.{length, take, drop, get_or, length-append, drop_of_length-le}
use lib.Seq.{sets, length-sets, sets-eq, drop-drop}
use borrow.Rule.Slice.PartMut.{put_mid}
use Rattle.laws.specs.Lists.{rows, over}
use Rattle.laws.proofs.Lists.{drop_here}
use Rattle.laws.proofs.Folds.{foldr_map}
use Rattle.laws.proofs.Sequences.{rows_take}
use Rattle.laws.proofs.Runs.{sets_append, sets_front}
use Rattle.rules.specs.Judge as rules
use Rattle.lists.specs.Lists.{joined, words_of_release, words_of_entry}

module _ {A : Type 0} (f : A → List ℕ) (each : ℕ) where
  -- the first i elements are stored: what is asked is what those from i on still make of the words
  pub record Put (xs : List A) (words₀ words : List ℕ) (i : ℕ) : Type 0 where
    pub room : each * length xs ≤ length words₀
    pub long : length words ≡ length words₀
    pub to_do : sets words₀ 0 (joined f xs) ≡ sets words (each * i) (joined f (drop i xs))

  pub put_none : (xs : List A) (words : List ℕ) → each * length xs ≤ length words → Put xs words words 0
  put_none xs words h = record { room = h; long = refl; to_do = rw (mul-zero each) }

  module _ (same : (x : A) → length (f x) ≡ each) where
    pub length_joined : (xs : List A) → length (joined f xs) ≡ each * length xs
    length_joined [] = sym (mul-zero each)
    length_joined (x ∷ xs) = length-append (f x) (joined f xs) ∙ omega (arith, same x, length_joined xs, mul-suc each (length xs))

    module _ {xs : List A} {words₀ words : List ℕ} {i : ℕ} (v : Put xs words₀ words i) where
      pub put_room : i < length xs → each * i + each ≤ length words
      put_room h = omega (arith, v.room, v.long, mul-suc each i, mul-le-mul_left each h)

      pub put_next : (x : A) → i < length xs → x ≡ get_or xs i x → {words' : List ℕ} → words' ≡ sets words (each * i) (f x) → Put xs words₀ words' (i + 1)
      put_next x h e {words'} p =
          let k : each * i + length (f x) ≡ each * (i + 1) = rw (add-one i) (omega (arith, same x, mul-suc each i)) in
          let rest : List ℕ = joined f (drop (i + 1) xs) in
          record {
            room = v.room;
            long = ap length p ∙ length-sets words (each * i) (f x) ∙ v.long;
            to_do =
                v.to_do ∙ ap (λ l. sets words (each * i) (joined f l)) (drop_here xs i x h (sym e))
                ∙ sets_append words (each * i) (f x) rest
                ∙ ap₂ (λ w j. sets w j rest) (sym p) k;
          }

      pub put_all : length xs ≤ i → words ≡ over (joined f xs) words₀
      put_all h =
          let l : length (joined f xs) ≤ length words₀ = rw (length_joined xs) v.room in
          sym (v.to_do ∙ ap (λ l. sets words (each * i) (joined f l)) (drop_of_length-le xs {i = i} h)) ∙ sets_front (joined f xs) words₀ l

-- the words of a list that code holds are those of the list that it stands for
pub joined_first : {A B : Type 0} (f : B → List ℕ) (g : A → B) (d : A) (l : List A) (n : ℕ) → n ≤ length l
    → joined (λ x. f (g x)) (take n l) ≡ joined f (rows (λ k. g (get_or l k d)) n)
joined_first f g d l n h = sym (foldr_map (λ x ws. f x ++ ws) g [] (take n l)) ∙ ap (joined f) (rows_take g l d n h)

-- a part written at once is such a run of stores
pub part_put : {A : Type 0} (s xs ys : List A) (from n : ℕ) → from + n ≤ length s → n ≡ length xs → ys ≡ xs → put_mid from n s ys ≡ sets s from xs
part_put s xs ys from n h e p =
    let d : drop n (drop from s) ≡ drop (from + length xs) s = drop-drop n from s ∙ ap (λ (k : ℕ). drop (from + k) s) e in
    rw (p, d) (sym (sets-eq xs s from (omega arith) ∙ append_assoc (take from s) xs (drop (from + length xs) s)))

pub two_each : (x : rules.Release) → length (words_of_release x) ≡ 2
two_each x = refl

pub four_each : (e : Option rules.Report) → length (words_of_entry e) ≡ 4
four_each none = refl
four_each (some e) = refl
