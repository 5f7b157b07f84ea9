-- How many bytes a number and a record take.
use Rattle.std.specs.Prelude.{if◌then◌else◌}
use mathlib.Core.Path.{◌≡◌, refl}
use mathlib.Core.List.{List, [], ◌∷◌, foldr}
use mathlib.Core.Bool.{Bool, true, false}
use mathlib.Core.Option.{Option, none, some}
use Prim.Native.Nat.{ℕ, zero, suc, ◌+◌, ◌-◌, ◌*◌, ◌/◌, ◌%◌, ◌≤◌, ◌<◌}
use native.Mathlib.Nat.{mul-suc, mul-le-mul_left}
use native.Mathlib.Omega.{arith}
use borrow.Author.Tests.{lt-ltb, le-ltb}
use lib.ListN.{length, length-append}
use Rattle.laws.specs.Tests.{◌<?◌}
use Rattle.rules.specs.Judge.{Report, Release, Round}
use Rattle.rules.specs.Numbers.{groups}
use Rattle.rules.specs.Written.{entry_numbers, numbers_of, bytes_of, record_bytes}
use Rattle.rules.proofs.Trip.{release_numbers}

pub one_group : (left v : ℕ) → v < 128 → groups left v ≡ v ∷ []
unfolding groups
one_group zero v h = refl
one_group (suc left) v h = rw (lt-ltb v 128 h)

pub more_groups : (left v : ℕ) → 128 ≤ v → 0 < left → groups left v ≡ (128 + v % 128) ∷ groups (left - 1) (v / 128)
unfolding groups
more_groups zero v h l = absurd (omega arith)
more_groups (suc left) v h l =
    let e : suc left - 1 ≡ left = omega arith in
    rw (e, le-ltb v 128 h)

pub groups_size : (left v : ℕ) → length (groups left v) ≤ suc left
unfolding groups
groups_size zero v = omega arith
groups_size (suc left) v = by (v <? 128) (groups_size left (v / 128))
  where
    by : (t : Bool) → length (groups left (v / 128)) ≤ suc left → length (if t then v ∷ [] else (128 + v % 128) ∷ groups left (v / 128)) ≤ suc (suc left)
    by true ih = omega arith
    by false ih = omega arith

-- a number takes a byte at least
pub groups_some : (left v : ℕ) → 1 ≤ length (groups left v)
unfolding groups
groups_some zero v = omega arith
groups_some (suc left) v = by (v <? 128)
  where
    by : (t : Bool) → 1 ≤ length (if t then v ∷ [] else (128 + v % 128) ∷ groups left (v / 128))
    by true = omega arith
    by false = omega arith

-- with a number in front, and with one of a single group
size_more : (v : ℕ) (ns : List ℕ) → length (bytes_of (v ∷ ns)) ≤ 9 + length (bytes_of ns)
size_more v ns = rw length-append (omega (arith, groups_size 8 v))

size_one : (v : ℕ) (ns : List ℕ) → v < 128 → length (bytes_of (v ∷ ns)) ≡ 1 + length (bytes_of ns)
size_one v ns h = rw (one_group 8 v h) (omega arith)

release_size : (x : Release) (ns : List ℕ) → length (bytes_of (release_numbers x ns)) ≤ 18 + length (bytes_of ns)
release_size x ns = omega (arith, size_more x.task_of (x.delay ∷ ns), size_more x.delay ns)

entry_size : (e : Option Report) (ns : List ℕ) → length (bytes_of (entry_numbers e ns)) ≤ 28 + length (bytes_of ns)
entry_size none ns = omega (arith, size_one 0 ns (omega arith))
entry_size (some e) ns =
    omega (arith, size_one 1 (e.progress ∷ e.completed ∷ e.run ∷ ns) (omega arith), size_more e.progress (e.completed ∷ e.run ∷ ns), size_more e.completed (e.run ∷ ns), size_more e.run ns)

-- a list of things that take m bytes each at most
list_size :
    {A : Type 0} (write : A → List ℕ → List ℕ) (m : ℕ) → ((x : A) (ns : List ℕ) → length (bytes_of (write x ns)) ≤ m + length (bytes_of ns)) →
    (xs : List A) (ns : List ℕ) → length (bytes_of (foldr write ns xs)) ≤ m * length xs + length (bytes_of ns)
list_size write m h [] ns = omega arith
list_size write m h (x ∷ xs) ns = omega (arith, h x (foldr write ns xs), list_size write m h xs ns, mul-suc m (length xs))

pub record_size : (q : Round) → length q.releases ≤ 64 → length q.entries ≤ 15 → length (record_bytes q) ≤ 9 + 1 + 64 * (2 * 9) + 1 + 15 * (1 + 3 * 9)
unfolding record_bytes numbers_of
record_size q m n =
    let es = foldr entry_numbers [] q.entries in
    let xs = foldr release_numbers (length q.entries ∷ es) q.releases in
    omega (
      arith,
      size_more q.r (length q.releases ∷ xs),
      size_one (length q.releases) xs (omega arith),
      list_size release_numbers 18 release_size q.releases (length q.entries ∷ es),
      mul-le-mul_left 18 m,
      size_one (length q.entries) es (omega arith),
      list_size entry_numbers 28 entry_size q.entries [],
      mul-le-mul_left 28 n,
    )
