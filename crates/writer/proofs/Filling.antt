-- The numbers of a record, how many and in which order.
use mathlib.Core.Path.{◌≡◌, refl, sym, ap}
use mathlib.Core.Option.{Option, none, some}
use mathlib.Core.List.{List, [], ◌∷◌, ◌++◌, map, foldr}
use Prim.Native.Nat.{ℕ, ◌+◌, ◌*◌, ◌≤◌, ◌<◌}
use native.Mathlib.Nat.{mul-suc, mul-le-mul_left}
use native.Mathlib.Omega.{arith}
use lib.ListN.{length, take, drop, get_or, length-append}
use Rattle.laws.proofs.Lists.{drop_here, length_rows, rows_at}
use Rattle.laws.proofs.Sequences.{rows_take}
use Rattle.rules.specs.Judge as rules
use Rattle.rules.specs.Written.{entry_numbers, numbers_of}
use Rattle.rules.proofs.Trip.{release_numbers}
use Rattle.round.specs.declared.Round.{Round}
use Rattle.round.specs.Round.{release_of, entry_of, no_release, no_entry, releases_of, entries_of, round_of}
use Rattle.writer.specs.Writing.{head_numbers}

-- a round's releases and entries, as the code goes over them
module _ (q : Round) where
  pub releases_listed : q.listed ≤ length q.releases → releases_of q ≡ map release_of (take q.listed q.releases)
  releases_listed h = sym (rows_take release_of q.releases no_release q.listed h)

  pub entries_listed : q.entered ≤ length q.entries → entries_of q ≡ map entry_of (take q.entered q.entries)
  entries_listed h = sym (rows_take entry_of q.entries no_entry q.entered h)

-- and from a place on
module _ (q : Round) (i : ℕ) where
  pub releases_here : i < q.listed → drop i (releases_of q) ≡ release_of (get_or q.releases i no_release) ∷ drop (i + 1) (releases_of q)
  releases_here h = drop_here (releases_of q) i (release_of no_release) (rw length_rows h) (rows_at _ q.listed i (release_of no_release) h)

  pub entries_here : i < q.entered → drop i (entries_of q) ≡ entry_of (get_or q.entries i no_entry) ∷ drop (i + 1) (entries_of q)
  entries_here h = drop_here (entries_of q) i none (rw length_rows h) (rows_at _ q.entered i none h)

-- an entry's numbers before others
pub entry_before : (e : Option rules.Report) (ns : List ℕ) → entry_numbers e ns ≡ entry_numbers e [] ++ ns
entry_before none ns = refl
entry_before (some e) ns = refl

releases_before : (xs : List rules.Release) (ns ms : List ℕ) → foldr release_numbers (ns ++ ms) xs ≡ foldr release_numbers ns xs ++ ms
releases_before [] ns ms = refl
releases_before (x ∷ xs) ns ms = ap (λ (l : List ℕ). x.task_of ∷ x.delay ∷ l) (releases_before xs ns ms)

-- all numbers: those before the entries, and the entries'
pub numbers_split : (q : Round) → numbers_of (round_of q) ≡ head_numbers q ++ foldr entry_numbers [] (entries_of q)
unfolding numbers_of
numbers_split q =
    rw (length_rows (λ i. release_of (get_or q.releases i no_release)) q.listed, length_rows (λ i. entry_of (get_or q.entries i no_entry)) q.entered)
    (ap (λ (l : List ℕ). q.time ∷ q.listed ∷ l) (releases_before (releases_of q) (q.entered ∷ []) (foldr entry_numbers [] (entries_of q))))

-- how many they are
release_count : (xs : List rules.Release) (ns : List ℕ) → length (foldr release_numbers ns xs) ≡ 2 * length xs + length ns
release_count [] ns = omega arith
release_count (x ∷ xs) ns = omega (arith, release_count xs ns, mul-suc 2 (length xs))

pub entry_count : (e : Option rules.Report) (ns : List ℕ) → length (entry_numbers e ns) ≤ 4 + length ns
entry_count none ns = omega arith
entry_count (some e) ns = omega arith

entries_count : (es : List (Option rules.Report)) → length (foldr entry_numbers [] es) ≤ 4 * length es
entries_count [] = omega arith
entries_count (e ∷ es) = omega (arith, entry_count e (foldr entry_numbers [] es), entries_count es, mul-suc 4 (length es))

pub head_count : (q : Round) → length (head_numbers q) ≡ 3 + 2 * q.listed
head_count q = omega (arith, release_count (releases_of q) (q.entered ∷ []), length_rows (λ i. release_of (get_or q.releases i no_release)) q.listed)

pub numbers_few : (q : Round) → q.listed ≤ 64 → q.entered ≤ 15 → length (numbers_of (round_of q)) ≤ 191
numbers_few q h k =
    rw (numbers_split q, length-append)
    (omega (arith, head_count q, entries_count (entries_of q), length_rows (λ i. entry_of (get_or q.entries i no_entry)) q.entered, mul-le-mul_left 4 k, mul-le-mul_left 2 h))
