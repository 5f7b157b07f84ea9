-- What `Given` says of a common record by value, in its own numbers.
use Rattle.std.specs.Prelude.{Option, Some, None}
use mathlib.Core.Path.{◌≡◌, refl, sym, ap, ◌∙◌}
use mathlib.Core.Logic.{⊎_elim}
use mathlib.Core.Option.{some}
use mathlib.Core.List.{List, [], ◌∷◌, ◌++◌, map}
use Prim.Native.Nat.{ℕ, ◌+◌, ◌-◌, ◌^◌, ◌≤◌, ◌<◌}
use native.Mathlib.Omega.{arith}
use lib.ListN.{length, take, drop, get_or, replicate, length-map, take-append-drop, get_or-map, get_or-eq_default}
use lib.Seq.{length-take-le, get_or-take, drop_at}
use Rattle.laws.specs.Lists.{pad}
use Rattle.laws.specs.Sums.{total}
use Rattle.laws.proofs.Tests.{lt_or_ge, none≢some, some_same}
use Rattle.rules.specs.Common as rules
use Rattle.table.specs.Table.{table_of}
use Rattle.table.specs.declared.Table.{Table}
use Rattle.table.proofs.Facts.{tasks_count}
use Rattle.common.specs.declared.Common.{Common}
use Rattle.common.specs.Common.{job_of, last_of, last_as, common_of, common_as, Given}
use Rattle.common.proofs.Records.{Numbers, numbers, kept_count, length_is}

pub record Sizes (t : Table) (c : Common) : Type 0 where
  pub places : length c.tasks ≡ 256
  pub earliest_places : length c.earliest ≡ 64
  pub last : (l : ℕ) → c.last ≡ Some l → l < 2 ^ 48
  pub start : c.start < 2 ^ 49
  pub few : c.count ≤ 256
  pub earliest : (i : ℕ) → i < 64 → get_or c.earliest i 0 < 2 ^ 49
  pub base : c.base ≤ c.offset
  pub offset : c.offset ≤ c.base + c.count
  pub released : c.base + c.count ≤ total c.earliest
  pub task : (k : ℕ) → k < c.count → get_or c.tasks k 0 < t.count
  pub unused : drop c.count c.tasks ≡ replicate (256 - c.count) 0

last_back : (o : Option ℕ) → o ≡ last_as (last_of o)
last_back None = refl
last_back (Some l) = refl

last_small : (o : Option ℕ) → ((l : ℕ) → o ≡ Some l → l < 2 ^ 48) → (l : ℕ) → last_of o ≡ some l → l < 2 ^ 48
last_small None h l e = none≢some e
last_small (Some n) h l e = let d : n ≡ l = some_same e in omega (arith, h n refl)

tasks_back : (l : List ℕ) → map (λ j. j.task_of) (map job_of l) ≡ l
tasks_back [] = refl
tasks_back (x ∷ l) = ap (λ (m : List ℕ). x ∷ m) (tasks_back l)

module _ {t : Table} {c : Common} (s : Sizes t c) where
  used_length : length (take c.count c.tasks) ≡ c.count
  used_length = length-take-le c.count c.tasks (omega (arith, s.few, s.places))

  kept_length : length (common_of c).kept ≡ c.count
  kept_length = length-map (take c.count c.tasks) job_of ∙ used_length

  padded : c.tasks ≡ pad 256 0 (take c.count c.tasks)
  unfolding pad
  padded =
      sym (take-append-drop c.count c.tasks)
      ∙ ap (λ (l : List ℕ). take c.count c.tasks ++ l) (s.unused ∙ ap (λ n. replicate (256 - n) 0) (sym used_length))

  exact : c ≡ common_as (common_of c)
  exact = λ i. record {
    tasks = (padded ∙ ap (pad 256 0) (sym (tasks_back (take c.count c.tasks)))) i;
    count = sym kept_length i;
    base = c.base;
    start = c.start;
    offset = c.offset;
    earliest = c.earliest;
    last = last_back c.last i;
  }

  known : (k : ℕ) → k < length (common_of c).kept → (get_or (common_of c).kept k rules.no_job).task_of < length (table_of t).tasks
  known k h =
      let l : k < c.count = omega (arith, kept_length) in
      let e : (get_or (common_of c).kept k rules.no_job).task_of ≡ get_or c.tasks k 0 =
      ap (λ (j : rules.Job). j.task_of) (get_or-map job_of (take c.count c.tasks) k 0) ∙ get_or-take c.count c.tasks k 0 l in
      omega (arith, e, tasks_count t, s.task k l)

  below : (i : ℕ) → get_or c.earliest i 0 < 2 ^ 49
  below i =
      ⊎_elim (s.earliest i)
      (λ h. let e : get_or c.earliest i 0 ≡ 0 = get_or-eq_default c.earliest 0 (omega (arith, s.earliest_places)) in omega arith) (lt_or_ge i 64)

  pub sizes_given : Given t c
  sizes_given = record {
    exact = exact;
    sound = record {
      base = s.base;
      offset = omega (arith, s.offset, kept_length);
      few = omega (arith, s.few, kept_length);
      known = known;
      places = s.earliest_places;
      released = omega (arith, s.released, kept_length);
      E_below = below;
      W_below = s.start;
      last_below = last_small c.last s.last;
    };
  }

module _ {t : Table} {c : Common} (g : Given t c) where
  n : Numbers t c
  n = numbers g

  blank : drop c.count c.tasks ≡ replicate (256 - c.count) 0
  unfolding pad
  blank =
      let k : List ℕ = map (λ j. j.task_of) (common_of c).kept in
      let e : length k ≡ c.count = length-map (common_of c).kept (λ j. j.task_of) ∙ kept_count g in
      ap (λ (d : Common). drop c.count d.tasks) g.exact ∙ drop_at k (replicate (256 - length k) 0) c.count e ∙ ap (λ n. replicate (256 - n) 0) e

  pub given_sizes : Sizes t c
  given_sizes = record {
    places = n.places;
    earliest_places = n.earliest_places;
    last = n.last;
    start = n.start;
    few = n.few;
    earliest = λ i h. n.earliest i;
    base = n.base;
    offset = n.offset;
    released = omega (arith, g.sound.released, length_is g);
    task = n.task;
    unused = blank;
  }
