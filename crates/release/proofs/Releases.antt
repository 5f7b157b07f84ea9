-- Laws of the checks of a list of releases.
--     releases_count, entries_count              the lists of a record
--     releases_are, release_here, releases_end   the releases as the code walks them
--     listed_here, listed_end                    and as the record stands for them, from a place on
--     listed_none, early_none                    15 and 16 of no release
--     few_listed, all_entered, listable, walked  what 3 and 15 leave of a list and of each release: no sum wraps
use mathlib.Core.Path.{◌≡◌, refl, sym, ap, ◌∙◌}
use mathlib.Core.Bool.{false}
use mathlib.Core.List.{List, [], ◌∷◌, map}
use Prim.Native.Nat.{ℕ, zero, suc, ◌+◌, ◌^◌, ◌≤◌, ◌<◌}
use native.Mathlib.Omega.{arith}
use borrow.Author.Tests.{ltb-false, leb-false, eqb-true, not-false}
use lib.ListN.{length, get_or, take, drop, length-take, drop_of_length-le}
use lib.Seq.{get_or-take}
use Rattle.laws.specs.Lists.{rows}
use Rattle.laws.proofs.Tests.{none_of}
use Rattle.laws.proofs.Lists.{drop_here, length_rows, rows_at}
use Rattle.table.specs.declared.Table as code
use Rattle.table.specs.Table.{table_of}
use Rattle.table.proofs.Facts.{ranges, tasks_count, task_row}
use Rattle.round.specs.declared.Release as listed
use Rattle.round.specs.declared.Round.{Round}
use Rattle.round.specs.Round.{release_of, releases_of, no_release, entry_of, entries_of, no_entry}
use Rattle.rules.specs.Table.{Task, Table, task}
use Rattle.rules.specs.Judge.{Release}
use Rattle.rules.specs.Close.{ill_listed, ill_formed, too_early}
use Rattle.release.specs.Listing.{Listable}

-- the lists that a record stands for
pub releases_count : (q : Round) → length (releases_of q) ≡ q.listed
releases_count q = length_rows (λ i. release_of (get_or q.releases i no_release)) q.listed

pub entries_count : (q : Round) → length (entries_of q) ≡ q.entered
entries_count q = length_rows (λ i. entry_of (get_or q.entries i no_entry)) q.entered

-- the releases as the code walks them: the first of the array
rows_of_take : {A B : Type 0} (f : A → B) (d : A) (n : ℕ) (l : List A) → n ≤ length l → rows (λ i. f (get_or l i d)) n ≡ map f (take n l)
unfolding rows
rows_of_take f d zero l h = refl
rows_of_take f d (suc n) [] h = absurd (omega arith)
rows_of_take f d (suc n) (x ∷ l) h = ap (λ xs. f x ∷ xs) (rows_of_take f d n l (omega arith))

pub releases_are : (q : Round) → length q.releases ≡ 64 → q.listed ≤ 64 → releases_of q ≡ map release_of (take q.listed q.releases)
releases_are q l h = rows_of_take release_of no_release q.listed q.releases (omega arith)

-- those from a place on
module _ (xs : List listed.Release) (i : ℕ) where
  pub release_here : i < length xs → map release_of (drop i xs) ≡ release_of (get_or xs i no_release) ∷ map release_of (drop (i + 1) xs)
  release_here h = ap (map release_of) (drop_here xs i no_release h refl)

  pub releases_end : length xs ≤ i → map release_of (drop i xs) ≡ []
  releases_end h = ap (map release_of) (drop_of_length-le xs {i = i} h)

module _ (q : Round) (i : ℕ) where
  pub listed_here : i < q.listed → drop i (releases_of q) ≡ release_of (get_or q.releases i no_release) ∷ drop (i + 1) (releases_of q)
  listed_here h =
      let at : ℕ → Release = λ k. release_of (get_or q.releases k no_release) in
      drop_here (rows at q.listed) i (release_of no_release) (omega (arith, releases_count q)) (rows_at at q.listed i (release_of no_release) h)

  pub listed_end : q.listed ≤ i → drop i (releases_of q) ≡ []
  listed_end h =
      drop_of_length-le (releases_of q) {i = i} (omega (arith, releases_count q))

-- 15 and 16 of no release
pub listed_none : (tab : Table) (least : ℕ) → ill_listed tab least [] ≡ false
unfolding ill_listed
listed_none tab least = refl

pub early_none : (tab : Table) (r : ℕ) (E : List ℕ) → too_early tab r E [] ≡ false
unfolding too_early
early_none tab r E = refl

-- what a list that stands says of each release
each_listed : (tab : Table) (least : ℕ) (xs : List Release) (d : Release) → ill_listed tab least xs ≡ false → (i : ℕ) → i < length xs
    → ((get_or xs i d).task_of < length tab.tasks) × ((get_or xs i d).delay < tab.timeout)
unfolding ill_listed
each_listed tab least [] d h i l = absurd (omega arith)
each_listed tab least (x ∷ xs) d h zero l = let k = none_of _ h in (leb-false _ _ (k 0), leb-false _ _ (k 1))
each_listed tab least (x ∷ xs) d h (suc i) l = let k = none_of _ h in each_listed tab x.delay xs d (k 3) i (omega arith)

-- "not r + delay": the release time, and E after it, lie less than 2^34 past r
pub record Soon (t : code.Table) (x : Release) : Type 0 where
  pub known : x.task_of < 64
  pub delayed : x.delay < 2 ^ 32
  pub apart : get_or t.distance x.task_of 0 < 2 ^ 32
  pub distance : (task (table_of t) x.task_of).T ≡ get_or t.distance x.task_of 0

module _ {t : code.Table} {q : Round} (v : Listable t q) where
  pub few_listed : q.listed ≤ 64
  unfolding ill_formed
  few_listed =
      let h : length (releases_of q) ≤ 64 = ltb-false _ _ (none_of _ v.formed 0) in
      omega (arith, releases_count q)

  pub all_entered : q.entered ≡ t.nodes
  unfolding ill_formed
  all_entered = sym (entries_count q) ∙ eqb-true _ _ (not-false _ (none_of _ v.formed 1))

  pub listable : (i : ℕ) → i < q.listed → Soon t (release_of (get_or q.releases i no_release))
  unfolding ill_formed
  listable i l =
      let at : ℕ → Release = λ j. release_of (get_or q.releases j no_release) in
      let e = each_listed (table_of t) 0 (rows at q.listed) (release_of no_release) (none_of _ v.formed 3) i (omega (arith, releases_count q)) in
      let here : get_or (rows at q.listed) i (release_of no_release) ≡ at i = rows_at at q.listed i (release_of no_release) l in
      let a : (at i).task_of < length (table_of t).tasks = rw here at e.0 in
      let b : (at i).delay < t.timeout = rw here at e.1 in
      let known : (at i).task_of < t.count = omega (arith, tasks_count t) in
      let n = ranges v.checked in
      record {
        known = omega (arith, n.few);
        delayed = omega (arith, n.timeout);
        apart = omega (arith, n.distance (at i).task_of known);
        distance = ap (λ (k : Task). k.T) (task_row t (at i).task_of known);
      }

  -- the same of a release that is walked
  walked : (i : ℕ) → i < length (take q.listed q.releases) → Soon t (release_of (get_or (take q.listed q.releases) i no_release))
  walked i h =
      let l : i < q.listed = omega (arith, length-take q.listed q.releases) in
      rw (get_or-take q.listed q.releases i no_release l) (listable i l)

  pub task_walked : (i : ℕ) → i < length (take q.listed q.releases) → (get_or (take q.listed q.releases) i no_release).task < 64
  task_walked i h = (walked i h).known

  pub delay_walked : (i : ℕ) → i < length (take q.listed q.releases) → (get_or (take q.listed q.releases) i no_release).delay < 2 ^ 32
  delay_walked i h = (walked i h).delayed

  pub apart_walked : (i : ℕ) → i < length (take q.listed q.releases) → get_or t.distance (get_or (take q.listed q.releases) i no_release).task 0 < 2 ^ 32
  apart_walked i h = (walked i h).apart

  pub distance_walked : (i : ℕ) → i < length (take q.listed q.releases)
      → (task (table_of t) (get_or (take q.listed q.releases) i no_release).task).T ≡ get_or t.distance (get_or (take q.listed q.releases) i no_release).task 0
  distance_walked i h = (walked i h).distance

-- a list of releases is walked from its first to its last
pub ruleset walks = (releases_are, release_here, releases_end)

-- what 3 and 15 leave of each release that is walked
pub ruleset sound = (few_listed, task_walked, delay_walked, apart_walked, distance_walked)
