-- The words of a common record are a written form of it: what is taken is `Given`, its words are those that came in, and no record that was given back is
-- refused: `taken_given`, `taken_words`, `given_taken`.
use Rattle.std.specs.Prelude.{Option, Some, None, unwrap_or, if◌then◌else◌}
use mathlib.Core.Path.{◌≡◌, refl, sym, ap, subst, ◌∙◌}
use mathlib.Core.Bool.{Bool, true, false, not}
use mathlib.Core.List.{List, [], ◌∷◌}
use mathlib.Core.Logic.{⊎_elim}
use Prim.Native.Nat.{ℕ, ◌+◌, ◌-◌, ◌^◌, ◌≤◌, ◌<◌}
use native.Mathlib.Omega.{arith}
use borrow.Author.Tests.{ltb-true, leb-true, eqb-true, not-false, lt-ltb, le-leb, eq-eqb}
use lib.ListN.{length, take, drop, get_or, replicate, get_or-replicate, length-append, length-take, length-drop, take-append-drop}
use lib.Seq.{get_or-drop, take_all, take_at, drop_at, drop-drop, length-take-le, get_or-take}
use Rattle.laws.specs.Tests.{◌=?◌, all_of, found}
use Rattle.laws.specs.Lists.{rows}
use Rattle.laws.specs.Sums.{total}
use Rattle.laws.proofs.Tests.{each_of, lt_or_ge, none≢some, some_same}
use Rattle.rules.specs.Answer.{done, refused, refuse◌if◌else◌}
use Rattle.rules.proofs.Answers.{passed, same_done}
use Rattle.refusal.proofs.Answers.{done_refused}
use Rattle.table.specs.Table.{Checked}
use Rattle.table.specs.declared.Table.{Table}
use Rattle.table.proofs.Facts.{ranges}
use Rattle.common.specs.declared.Common.{Common}
use Rattle.common.specs.Common.{last_of, Given}
use Rattle.words.specs.Words.{BytesIn}
use Rattle.states.specs.Common.{mark, common_words, last_in, common_in, all_below, small_common, in_place, known_tasks, known_common, common_at}
use Rattle.states.proofs.Below.{each_below, are_below, zeros, zeros_below}
use Rattle.states.proofs.Words.{word_back, or_second, front}
use Rattle.states.proofs.Sizes.{Sizes, sizes_given, given_sizes}

-- what the words have passed
pub record Taken (t : Table) (ws : List ℕ) (c : Common) : Type 0 where
  pub long : length ws ≡ 326
  pub known : known_common t ws ≡ true
  pub is : common_in ws ≡ c

pub taken : {t : Table} {ws : List ℕ} {c : Common} → common_at t ws ≡ done c → Taken t ws c
unfolding common_at
taken h =
    let a = passed 100 _ h in
    let b = passed 102 _ a.1 in
    record { long = eqb-true _ 326 (not-false _ a.0); known = not-false _ b.0; is = same_done b.1 }

-- what a refusal says of words that are as many as they should be
pub unknown_else : (t : Table) (ws : List ℕ) → length ws ≡ 326 → {n : ℕ} → refused n ≡ common_at t ws → known_common t ws ≡ false
unfolding common_at
unknown_else t ws l {n} p = by (known_common t ws) (p ∙ rw (eq-eqb (length ws) 326 l))
  where
    by : (b : Bool) → refused n ≡ (refuse 102 if not b else done (common_in ws)) → b ≡ false
    by true e = absurd (done_refused (sym e))
    by false e = refl

pub record Small (begun last start count : ℕ) : Type 0 where
  pub one : begun ≤ 1
  pub unbegun : (begun =? 1) ≡ false → last ≡ 0
  pub last_small : last < 2 ^ 48
  pub start_small : start < 2 ^ 49
  pub few : count ≤ 256

pub small : (begun last start count : ℕ) → small_common begun last start count ≡ true → Small begun last start count
unfolding small_common
small begun last start count h =
    let a = each_of _ h in
    record {
      one = leb-true begun 1 (a 0);
      unbegun = λ e. eqb-true last 0 (or_second _ _ (a 1) e);
      last_small = ltb-true last (2 ^ 48) (a 2);
      start_small = ltb-true start (2 ^ 49) (a 3);
      few = leb-true count 256 (a 4);
    }

pub record Placed (base offset count released : ℕ) : Type 0 where
  pub up : base ≤ offset
  pub within : offset ≤ base + count
  pub counted : base + count ≤ released

pub placed : (base offset count released : ℕ) → in_place base offset count released ≡ true → Placed base offset count released
unfolding in_place
placed base offset count released h =
    let a = each_of _ h in
    record { up = leb-true base offset (a 0); within = leb-true offset (base + count) (a 1); counted = leb-true (base + count) released (a 2) }

-- a mark and a time are those of a last round, or of none
module _ {begun last start count : ℕ} (s : Small begun last start count) where
  abbrev read : Option ℕ
  read = last_in begun last

  last_below : (l : ℕ) → read ≡ Some l → l < 2 ^ 48
  last_below = by (begun =? 1)
    where
      by : (b : Bool) (l : ℕ) → (if b then Some last else None) ≡ Some l → l < 2 ^ 48
      by true l e = let d : last ≡ l = some_same (ap last_of e) in omega (arith, d, s.last_small)
      by false l e = none≢some (ap last_of e)

  begun_same : mark (found (last_of read)) ≡ begun
  begun_same = ap mark (by (begun =? 1)) ∙ word_back begun s.one
    where
      by : (b : Bool) → found (last_of (if b then Some last else None)) ≡ b
      by true = refl
      by false = refl

  last_same : unwrap_or read 0 ≡ last
  last_same = by (begun =? 1) refl
    where
      by : (b : Bool) → (begun =? 1) ≡ b → unwrap_or (if b then Some last else None) 0 ≡ last
      by true e = refl
      by false e = sym (s.unbegun e)

module _ (ws : List ℕ) (long : length ws ≡ 326) where
  places : length (common_in ws).tasks ≡ 256
  unfolding common_in
  places = rw (length-take, length-drop) (omega arith)

  earliest_places : length (common_in ws).earliest ≡ 64
  unfolding common_in
  earliest_places = rw (length-take, length-drop) (omega arith)

  module _ (t : Table) (h : known_common t ws ≡ true) where
    sized : Small (get_or ws 4 0) (get_or ws 5 0) (get_or ws 1 0) (get_or ws 3 0)
    unfolding known_common common_in
    sized = small _ _ _ _ (each_of _ h 0)

    pub known_sizes : Sizes t (common_in ws)
    unfolding known_common known_tasks common_in
    known_sizes =
        let a = each_of _ h in
        let b = each_of _ (a 3) in
        let c = common_in ws in
        let p = placed _ _ _ _ (a 2) in
        let few = sized.few in
        record {
          places = places;
          earliest_places = earliest_places;
          last = last_below sized;
          start = sized.start_small;
          few = few;
          earliest = λ i l. each_below (2 ^ 49) c.earliest (a 1) i (omega (arith, earliest_places));
          base = p.up;
          offset = p.within;
          released = p.counted;
          task = λ k l.
              let m : length (take c.count c.tasks) ≡ c.count = length-take-le c.count c.tasks (omega (arith, places)) in
              rw (get_or-take c.count c.tasks k 0 l) at (each_below t.count (take c.count c.tasks) (b 0) k (omega arith));
          unused =
              let m : length (drop c.count c.tasks) ≡ 256 - c.count = rw length-drop (omega (arith, places)) in
              zeros (drop c.count c.tasks) (b 1) ∙ ap (λ n. replicate n 0) m;
        }

    pub words_same : common_words (common_in ws) ≡ ws
    unfolding common_words common_in rows
    words_same =
        let e : take 256 (drop 70 ws) ≡ drop 64 (drop 6 ws) = take_all 256 (drop 70 ws) (rw length-drop (omega arith)) ∙ sym (drop-drop 64 6 ws) in
        rw (begun_same sized, last_same sized, e, take-append-drop 64 (drop 6 ws)) (front 6 ws (omega arith))

    -- the places of the tasks hold bytes
    pub known_bytes : Checked t → BytesIn 256 70 ws
    unfolding common_in
    known_bytes q = record {
      byte = λ k l.
          let z = known_sizes in
          let c = common_in ws in
          let e : get_or c.tasks k 0 ≡ get_or ws (70 + k) 0 = get_or-take 256 (drop 70 ws) k 0 l ∙ get_or-drop 70 ws k 0 in
          ⊎_elim (λ m. omega (arith, e, z.task k m, (ranges q).few))
          (λ m.
          let j : c.count + (k - c.count) ≡ k = omega arith in
          let d : get_or c.tasks k 0 ≡ 0 =
          ap (λ i. get_or c.tasks i 0) (sym j)
          ∙ sym (get_or-drop c.count c.tasks (k - c.count) 0)
          ∙ ap (λ (l : List ℕ). get_or l (k - c.count) 0) z.unused
          ∙ get_or-replicate {A = ℕ} (256 - c.count) (k - c.count) 0 0 (omega arith) in
          omega (arith, e, d))
          (lt_or_ge k c.count);
    }

-- a record that was taken may be asked everything that one that was given back may be
pub taken_given : (t : Table) (ws : List ℕ) {c : Common} → common_at t ws ≡ done c → Given t c
taken_given t ws h =
    let k = taken h in
    subst (Given t) k.is (sizes_given (known_sizes ws k.long t k.known))

-- and its words are those that came in
pub taken_words : (t : Table) (ws : List ℕ) {c : Common} → common_at t ws ≡ done c → common_words c ≡ ws
taken_words t ws h =
    let k = taken h in
    ap common_words (sym k.is) ∙ words_same ws k.long t k.known

last_back : (o : Option ℕ) → last_in (mark (found (last_of o))) (unwrap_or o 0) ≡ o
last_back None = refl
last_back (Some l) = refl

module _ {t : Table} {c : Common} (s : Sizes t c) where
  pub words_long : length (common_words c) ≡ 326
  unfolding common_words
  words_long = simp length-append (omega (arith, s.places, s.earliest_places))

  pub same_back : common_in (common_words c) ≡ c
  unfolding common_words common_in
  same_back = λ i. record {
    tasks = (ap (take 256) (drop_at c.earliest c.tasks 64 s.earliest_places) ∙ take_all 256 c.tasks (omega (arith, s.places))) i;
    count = c.count;
    base = c.base;
    start = c.start;
    offset = c.offset;
    earliest = take_at c.earliest c.tasks 64 s.earliest_places i;
    last = last_back c.last i;
  }

  small_yes : (o : Option ℕ) → ((l : ℕ) → o ≡ Some l → l < 2 ^ 48) → small_common (mark (found (last_of o))) (unwrap_or o 0) c.start c.count ≡ true
  unfolding small_common all_of
  small_yes None h = rw (lt-ltb c.start (2 ^ 49) s.start, le-leb c.count 256 s.few)
  small_yes (Some l) h = rw (lt-ltb l (2 ^ 48) (h l refl), lt-ltb c.start (2 ^ 49) s.start, le-leb c.count 256 s.few)

  placed_yes : in_place c.base c.offset c.count (total c.earliest) ≡ true
  unfolding in_place all_of
  placed_yes =
      rw (
        le-leb c.base c.offset s.base,
        le-leb c.offset (c.base + c.count) s.offset,
        le-leb (c.base + c.count) (total c.earliest) s.released,
      )

  tasks_yes : known_tasks t.count c.count c.tasks ≡ true
  unfolding known_tasks all_of
  tasks_yes =
      let m : length (take c.count c.tasks) ≡ c.count = length-take-le c.count c.tasks (omega (arith, s.places, s.few)) in
      rw (
        are_below t.count (take c.count c.tasks)
            (λ k l. rw (get_or-take c.count c.tasks k 0 (omega arith)) (s.task k (omega arith))),
        s.unused,
        zeros_below (256 - c.count),
      )

  -- the conditions of a record, of words that say it
  abbrev conditions : ℕ → ℕ → Common → Bool
  conditions begun last c =
      all_of (
      small_common begun last c.start c.count
      ∷ all_below (2 ^ 49) c.earliest
      ∷ in_place c.base c.offset c.count (total c.earliest)
      ∷ known_tasks t.count c.count c.tasks ∷ [])

  pub known_back : known_common t (common_words c) ≡ true
  unfolding known_common common_words all_of
  known_back =
      ap (conditions (mark (found (last_of c.last))) (unwrap_or c.last 0)) same_back
      ∙ rw (
        small_yes c.last s.last,
        are_below (2 ^ 49) c.earliest (λ i l. s.earliest i (omega (arith, s.earliest_places))),
        placed_yes,
        tasks_yes,
      )

-- no record that was given back is refused
pub given_taken : {t : Table} {c : Common} → Given t c → common_at t (common_words c) ≡ done c
unfolding common_at
given_taken {t} {c} g =
    let s = given_sizes g in
    rw (eq-eqb (length (common_words c)) 326 (words_long s), known_back s, same_back s)
