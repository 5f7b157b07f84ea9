-- A list read element by element: what is read is what was read so far with the rest of the list behind it. Once for every kind of element.
use mathlib.Core.Path.{◌≡◌, refl, sym, ap, ap₂, ◌∙◌}
use mathlib.Core.List.{List, [], ◌∷◌, ◌++◌, map, append_assoc, append-nil}
use Prim.Native.Nat.{ℕ, suc, ◌+◌, ◌-◌, ◌≤◌, ◌<◌}
use native.Mathlib.Omega.{arith}
use lib.ListN.{length, drop, set, length-append, length-map}
use Rattle.laws.specs.Lists.{pad}
use Rattle.laws.proofs.Lists.{map_append, pad_snoc}
use Rattle.rules.specs.Answer.{Answer, done, refused, refused_by}
use Rattle.rules.specs.Numbers.{Read, Reads, after, give}
use Rattle.rules.specs.Written.{times}
use Rattle.number.specs.Numbers.{told}
use Rattle.number.proofs.Told.{Done, told_done}

module _ {A : Type 0} where
  unfoldable pub behind : List A → Answer (Read (List A)) → Answer (Read (List A))
  behind acc a = after a (λ xs. give (acc ++ xs))

  behind_none : (a : Answer (Read (List A))) → a ≡ behind [] a
  unfolding behind
  behind_none (done x) = refl
  behind_none (refused n) = refl
  behind_none (refused_by n i) = refl

  behind_more : (acc : List A) (x : A) (a : Answer (Read (List A))) → behind acc (after a (λ xs. give (x ∷ xs))) ≡ behind (acc ++ (x ∷ [])) a
  unfolding behind
  behind_more acc x (done xs) = ap (λ (l : List A). done (record { value = l; rest = xs.rest })) (sym (append_assoc acc (x ∷ []) xs.value))
  behind_more acc x (refused n) = refl
  behind_more acc x (refused_by n i) = refl

-- so many elements read, and the rest of the list behind them
pub record Listing {A : Type 0} (rd : Reads A) (s : List ℕ) (from count : ℕ) (acc : List A) (at i : ℕ) : Type 0 where
  pub to : i ≤ count
  pub on : at ≤ length s
  pub many : length acc ≡ i
  pub to_do : times count rd (drop from s) ≡ behind acc (times (count - i) rd (drop at s))

pub listing_start : {A : Type 0} (rd : Reads A) (s : List ℕ) (from count : ℕ) → from ≤ length s → Listing rd s from count [] from 0
listing_start rd s from count k =
    let z : count - 0 ≡ count = omega arith in
    record { to = omega arith; on = k; many = refl; to_do = rw z (behind_none (times count rd (drop from s))) }

module _ {A : Type 0} {rd : Reads A} {s : List ℕ} {from count : ℕ} {acc : List A} {at i : ℕ} (v : Listing rd s from count acc at i) where
  pub listing_done : count ≤ i → times count rd (drop from s) ≡ give acc (drop at s)
  unfolding times behind
  listing_done h =
      let z : count - i ≡ 0 = omega arith in
      v.to_do ∙ rw (z, append-nil acc)

  module _ (h : i < count) where
    left : count - i ≡ suc (count - (i + 1))
    left = omega arith

    pub listing_stop : {n : ℕ} → rd (drop at s) ≡ refused n → times count rd (drop from s) ≡ refused n
    unfolding times behind
    listing_stop e = rw (v.to_do, left, e)

    pub listing_more : {x : A} {next : ℕ} → Done s (rd (drop at s)) x next → Listing rd s from count (acc ++ (x ∷ [])) next (i + 1)
    unfolding times
    listing_more {x} {next} d = record {
      to = omega arith;
      on = d.on;
      many = simp length-append (omega (arith, v.many));
      to_do = v.to_do ∙ rw (left, d.is) (behind_more acc x (times (count - (i + 1)) rd (drop next s)));
    }

-- the elements so far, as an array of so much room holds them
pub record InRoom {A C : Type 0} (form : A → C) (room : ℕ) (blank : C) (rd : Reads A) (s : List ℕ) (from count : ℕ) (list : List C) (at i : ℕ) : Type 0 where
  pub few : count ≤ room
  pub acc : List A
  pub so_far : Listing rd s from count acc at i
  pub holds : list ≡ pad room blank (map form acc)

pub room_start :
    {A C : Type 0} (form : A → C) (room : ℕ) (blank : C) (rd : Reads A) (s : List ℕ) (from count : ℕ) {list : List C} → count ≤ room → from ≤ length s →
    list ≡ pad room blank [] → InRoom form room blank rd s from count list from 0
room_start form room blank rd s from count h k e = record { few = h; acc = []; so_far = listing_start rd s from count k; holds = e }

module _ {A C : Type 0} {form : A → C} {room : ℕ} {blank : C} {rd : Reads A} {s : List ℕ} {from count : ℕ} {list : List C} {at i : ℕ}
    (v : InRoom form room blank rd s from count list at i) where
  pub room_done :
      {D : Type 0} (value : List A → ℕ → D) (halt : ℕ → D) → count ≤ i → value v.acc at ≡ told value halt s (times count rd (drop from s))
  room_done value halt h = sym (rw (listing_done v.so_far h) (told_done value halt s v.acc at v.so_far.on))

  pub room_stop :
      i < count → {D : Type 0} (value : List A → ℕ → D) (halt : ℕ → D) {n : ℕ} → rd (drop at s) ≡ refused n → halt n ≡ told value halt s (times count rd (drop from s))
  room_stop h value halt e = rw (listing_stop v.so_far h e)

  pub room_more : i < count → {x : A} {next : ℕ} {y : C} → Done s (rd (drop at s)) x next → form x ≡ y → InRoom form room blank rd s from count (set list i y) next (i + 1)
  room_more h {x} {next} {y} d e =
      let m : length (map form v.acc) ≡ i = length-map v.acc form ∙ v.so_far.many in
      record {
        few = v.few;
        acc = v.acc ++ (x ∷ []);
        so_far = listing_more v.so_far h d;
        holds =
            ap₂ (λ (l : List C) (k : ℕ). set l k y) v.holds (sym m)
            ∙ pad_snoc room blank (map form v.acc) y (omega (arith, m, v.few))
            ∙ ap (pad room blank) (ap (λ (z : C). map form v.acc ++ (z ∷ [])) (sym e) ∙ sym (map_append form v.acc (x ∷ [])));
      }
