-- A list of elements read into the first places of a lent one: what the loop keeps, and what it comes to.
use mathlib.Core.Path.{◌≡◌, refl, sym, ap, ap₂, ◌∙◌}
use mathlib.Core.List.{List, [], ◌∷◌, ◌++◌}
use Prim.Native.Nat.{ℕ, ◌+◌, ◌≤◌, ◌<◌}
use native.Mathlib.Omega.{arith}
use lib.ListN.{length, drop, set, length-append, length-set}
use lib.Seq.{sets}
use Rattle.laws.specs.Lists.{over}
use Rattle.laws.proofs.Runs.{sets_front, sets_append}
use Rattle.rules.specs.Answer.{done, refused}
use Rattle.rules.specs.Numbers.{Reads, give}
use Rattle.rules.specs.Written.{times}
use Rattle.rules.proofs.Reading.{Takes}
use Rattle.number.specs.Numbers.{placed}
use Rattle.number.proofs.Told.{Done, told_value, told_stop}
use Rattle.number.proofs.Listing.{Listing, listing_start, listing_done, listing_stop, listing_more}

-- one more element behind those that were put over the lent list
over_more : {A : Type 0} (xs lent : List A) (y : A) → length xs < length lent → set (over xs lent) (length xs) y ≡ over (xs ++ (y ∷ [])) lent
over_more xs lent y h =
    let l : length (xs ++ (y ∷ [])) ≤ length lent = simp length-append (omega arith) in
    let e : length xs ≡ 0 + length xs = omega arith in
    ap (λ s. set s (length xs) y) (sym (sets_front xs lent (omega arith)))
    ∙ ap (λ i. set (sets lent 0 xs) i y) e
    ∙ sym (sets_append lent 0 xs (y ∷ []))
    ∙ sets_front (xs ++ (y ∷ [])) lent l

pub record SoFar {A : Type 0} (rd : Reads A) (s : List ℕ) (from count : ℕ) (lent list : List A) (at i : ℕ) : Type 0 where
  pub room : count ≤ length lent
  pub long : length list ≡ length lent
  pub acc : List A
  pub reading : Listing rd s from count acc at i
  pub holds : list ≡ over acc lent

pub so_far : {A : Type 0} (rd : Reads A) (s : List ℕ) (from count : ℕ) (lent : List A) → count ≤ length lent → from ≤ length s → SoFar rd s from count lent lent from 0
so_far rd s from count lent h k = record { room = h; long = refl; acc = []; reading = listing_start rd s from count k; holds = refl }

module _ {A : Type 0} {rd : Reads A} (k : Takes rd) {s : List ℕ} {from count : ℕ} {lent list : List A} {at i : ℕ} (v : SoFar rd s from count lent list at i) where
  pub one_more : {y : A} {next : ℕ} → i < count → done (y, next) ≡ placed (λ x. x) s (rd (drop at s)) → SoFar rd s from count lent (set list i y) next (i + 1)
  one_more {y} {next} h p =
      let t = told_value (λ x. x) k s at (sym p) in
      let d : Done s (rd (drop at s)) y next = rw t.same at t.was in
      let m = v.reading.many in
      record {
        room = v.room;
        long = length-set list i y ∙ v.long;
        acc = v.acc ++ (y ∷ []);
        reading = listing_more v.reading h d;
        holds = ap₂ (λ l j. set l j y) v.holds (sym m) ∙ over_more v.acc lent y (omega (arith, m, v.room));
      }

  pub one_bad : {n : ℕ} → i < count → refused n ≡ placed (λ x. x) s (rd (drop at s)) → times count rd (drop from s) ≡ refused n
  one_bad h p = listing_stop v.reading h (told_stop (λ x. x) k s at (sym p))

  pub all_read : count ≤ i → times count rd (drop from s) ≡ give v.acc (drop at s)
  all_read h = listing_done v.reading h

  pub all_many : count ≤ i → length v.acc ≡ count
  all_many h = omega (arith, v.reading.many, v.reading.to)
