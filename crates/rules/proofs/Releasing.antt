-- What releases keep: B, O, W and the order up to O stay, L grows by one each, E does not fall and its sum grows by one at least each.
use mathlib.Core.Path.{◌≡◌, refl, ◌∙◌}
use mathlib.Core.Bool.{false, not}
use mathlib.Core.List.{List, [], ◌∷◌, foldl}
use Prim.Native.Nat.{ℕ, suc, ◌+◌, ◌-◌, ◌^◌, ◌≤◌, ◌<◌}
use native.Mathlib.Omega.{arith}
use lib.ListN.{length, take, drop, get_or, length-append, length-take, length-drop, length-set}
use lib.Seq.{take-append-le, take-take}
use borrow.Author.Tests.{ltb-false, leb-false}
use Rattle.laws.specs.Tests.{◌<?◌}
use Rattle.laws.specs.Sums.{total}
use Rattle.laws.proofs.Tests.{or_no, none_of}
use Rattle.laws.proofs.Search.{up_to_last_le}
use Rattle.laws.proofs.Sums.{set_rises, total_set}
use Rattle.laws.proofs.Lists.{insert_each, set_each}
use Rattle.rules.specs.Table.{Table, task}
use Rattle.rules.specs.Common.{Job, Common, no_job, higher}
use Rattle.rules.specs.Judge.{Release}
use Rattle.rules.specs.Insert.{place, insert, next_E, release, release_all}
use Rattle.rules.specs.Close.{ill_listed, too_early}
use Rattle.rules.specs.Sound.{Sound}
use Rattle.rules.proofs.Tables.{Fit, limits, timeout_small}

-- one job put in past the first n
module _ (tab : Table) (i t n : ℕ) (jobs : List Job) where
  pub place_past : n ≤ place tab i t n jobs
  unfolding place
  place_past = omega arith

  pub place_within : n ≤ length jobs → place tab i t n jobs ≤ length jobs
  unfolding place
  place_within h =
      let k = up_to_last_le (λ j. not (higher tab i t j)) (drop n jobs) in
      let e = length-drop n jobs in
      omega arith

  pub insert_long : length (insert tab i t n jobs) ≡ length jobs + 1
  unfolding insert
  insert_long = simp (length-append, length-take, length-drop) (omega arith)

  pub insert_front : n ≤ length jobs → take n (insert tab i t n jobs) ≡ take n jobs
  unfolding insert
  insert_front h =
      let a : n ≤ length (take (place tab i t n jobs) jobs) = simp length-take (omega (arith, place_past)) in
      take-append-le n (take (place tab i t n jobs) jobs) _ a ∙ take-take n (place tab i t n jobs) jobs place_past

-- what stays
pub record Released (c d : Common) (k : ℕ) : Type 0 where
  pub base : d.B ≡ c.B
  pub start : d.W ≡ c.W
  pub offset : d.O ≡ c.O
  pub last : d.last ≡ c.last
  pub more : length d.kept ≡ length c.kept + k
  pub front : c.O - c.B ≤ length c.kept → take (c.O - c.B) d.kept ≡ take (c.O - c.B) c.kept

-- a release that stands: neither 15 nor 16
pub record Admitted (tab : Table) (r : ℕ) (E : List ℕ) (x : Release) : Type 0 where
  pub known : x.task_of < length tab.tasks
  pub soon : x.delay < tab.timeout
  pub due : get_or E x.task_of 0 ≤ r + x.delay

module _ (tab : Table) (r : ℕ) where
  pub release_keeps : (c : Common) (x : Release) → Released c (release tab r c x) 1
  unfolding release
  release_keeps c x = record {
    base = refl;
    start = refl;
    offset = refl;
    last = refl;
    more = insert_long tab x.task_of (r + x.delay) (c.O - c.B) c.kept;
    front = insert_front tab x.task_of (r + x.delay) (c.O - c.B) c.kept;
  }

  then_keeps : {c d e : Common} {k : ℕ} → Released c d 1 → Released d e k → Released c e (suc k)
  then_keeps {c} {d} {e} s t = record {
    base = t.base ∙ s.base;
    start = t.start ∙ s.start;
    offset = t.offset ∙ s.offset;
    last = t.last ∙ s.last;
    more = omega (arith, s.more, t.more);
    front = λ h. (let z = t.front (omega (arith, s.base, s.offset, s.more)) in rw (s.offset, s.base) at z) ∙ s.front h;
  }

  all_keep : (xs : List Release) (c : Common) → Released c (foldl (release tab r) c xs) (length xs)
  all_keep [] c = record { base = refl; start = refl; offset = refl; last = refl; more = omega arith; front = λ h. refl }
  all_keep (x ∷ xs) c = then_keeps (release_keeps c x) (all_keep xs (release tab r c x))

  pub releases_keep : (c : Common) (xs : List Release) → Released c (release_all tab r c xs) (length xs)
  unfolding release_all
  releases_keep c xs = all_keep xs c

-- a list that passed 15 and 16: its first release stands, and the rest has passed them too
module _ (tab : Table) (x : Release) (xs : List Release) where
  pub listed_rest : (least : ℕ) → ill_listed tab least (x ∷ xs) ≡ false → ill_listed tab x.delay xs ≡ false
  unfolding ill_listed
  listed_rest least g = none_of _ g 3

  module _ (r : ℕ) (E : List ℕ) (h : too_early tab r E (x ∷ xs) ≡ false) where
    parts : (r + x.delay <? get_or E x.task_of 0 ≡ false) × (too_early tab r (next_E tab r E x) xs ≡ false)
    unfolding too_early
    parts = or_no (r + x.delay <? get_or E x.task_of 0) (too_early tab r (next_E tab r E x) xs) h

    pub early_rest : too_early tab r (next_E tab r E x) xs ≡ false
    early_rest = parts.1

    pub due_first : get_or E x.task_of 0 ≤ r + x.delay
    due_first = ltb-false _ _ parts.0

    pub admitted_first : (least : ℕ) → ill_listed tab least (x ∷ xs) ≡ false → Admitted tab r E x
    unfolding ill_listed
    admitted_first least g =
        let k = none_of _ g in
        record { known = leb-false _ _ (k 0); soon = leb-false _ _ (k 1); due = due_first }

insert_known : (tab : Table) (i t n : ℕ) (jobs : List Job) → i < length tab.tasks → ((k : ℕ) → k < length jobs → (get_or jobs k no_job).task_of < length tab.tasks)
    → (k : ℕ) → k < length (insert tab i t n jobs) → (get_or (insert tab i t n jobs) k no_job).task_of < length tab.tasks
unfolding insert
insert_known tab i t n jobs = insert_each (λ (j : Job). j.task_of < length tab.tasks) no_job jobs (place tab i t n jobs) (record { task_of = i })

module _ {tab : Table} (f : Fit tab) {r : ℕ} (l : r < 2 ^ 48) where
  -- "E(task) becomes release time + T": their sum rises by 1 at least, and they stay below 2^49
  module _ {E : List ℕ} {x : Release} (a : Admitted tab r E x) where
    pub E_sum : length E ≡ 64 → total E + 1 ≤ total (next_E tab r E x)
    E_sum e =
        let k = f.each x.task_of a.known in
        total_set E x.task_of _ (omega (arith, a.known, f.tasks.1)) (omega (arith, a.due, k.some_C, k.C_D, k.D_T))

    pub E_bounded : ((i : ℕ) → get_or E i 0 < 2 ^ 49) → (i : ℕ) → get_or (next_E tab r E x) i 0 < 2 ^ 49
    E_bounded = set_each (λ (n : ℕ). n < 2 ^ 49) 0 E x.task_of _ (omega (arith, a.soon, timeout_small f, (limits f x.task_of).T_small))

  pub release_sound : {c : Common} {x : Release} → Sound tab c → Admitted tab r c.E x → length c.kept < 256 → Sound tab (release tab r c x)
  unfolding release
  release_sound {c} {x} s a room =
      let n = insert_long tab x.task_of (r + x.delay) (c.O - c.B) c.kept in
      record {
        base = s.base;
        offset = omega (arith, s.offset);
        few = omega arith;
        known = insert_known tab x.task_of (r + x.delay) (c.O - c.B) c.kept a.known s.known;
        places = length-set c.E x.task_of _ ∙ s.places;
        released = omega (arith, s.released, E_sum a s.places);
        E_below = E_bounded a s.E_below;
        W_below = s.W_below;
        last_below = s.last_below;
      }

  all_sound : (xs : List Release) {c : Common} (least : ℕ) → Sound tab c → length c.kept + length xs ≤ 256 → ill_listed tab least xs ≡ false → too_early tab r c.E xs ≡ false
      → Sound tab (foldl (release tab r) c xs)
  unfolding release
  all_sound [] least s m g h = s
  all_sound (x ∷ xs) {c} least s m g h =
      let n = insert_long tab x.task_of (r + x.delay) (c.O - c.B) c.kept in
      let t = release_sound s (admitted_first tab x xs r c.E h least g) (omega arith) in
      all_sound xs x.delay t (omega arith) (listed_rest tab x xs least g) (early_rest tab x xs r c.E h)

  pub releases_sound : {c : Common} (xs : List Release) → Sound tab c → length c.kept + length xs ≤ 256 → ill_listed tab 0 xs ≡ false → too_early tab r c.E xs ≡ false
      → Sound tab (release_all tab r c xs)
  unfolding release_all
  releases_sound xs s = all_sound xs 0 s

-- no E falls
module _ (tab : Table) (r : ℕ) where
  all_rise : (xs : List Release) (c : Common) → too_early tab r c.E xs ≡ false → (i : ℕ) → get_or c.E i 0 ≤ get_or (foldl (release tab r) c xs).E i 0
  unfolding release
  all_rise [] c h i = omega arith
  all_rise (x ∷ xs) c h i =
      let b = due_first tab x xs r c.E h in
      omega (arith, set_rises c.E x.task_of (r + x.delay + (task tab x.task_of).T) (omega arith) i, all_rise xs (release tab r c x) (early_rest tab x xs r c.E h) i)

  pub E_rises : (c : Common) (xs : List Release) → too_early tab r c.E xs ≡ false → (i : ℕ) → get_or c.E i 0 ≤ get_or (release_all tab r c xs).E i 0
  unfolding release_all
  E_rises c xs = all_rise xs c
