-- A record by value and the record that it stands for: each is the other's one image, and what is known of one that this library gave back.
use Rattle.std.specs.Prelude.{Some}
use mathlib.Core.Path.{◌≡◌, refl, sym, ap, ◌∙◌, subst}
use mathlib.Core.Option.{Option, none, some}
use mathlib.Core.List.{List, [], ◌∷◌, map}
use Prim.Native.Nat.{ℕ, ◌+◌, ◌^◌, ◌≤◌, ◌<◌}
use native.Mathlib.Omega.{arith}
use lib.ListN.{length, take, get_or, length-map, get_or-map}
use lib.Seq.{get_or-take}
use Rattle.laws.specs.Lists.{pad}
use Rattle.laws.proofs.Lists.{take_pad, length_pad}
use Rattle.rules.specs.Common as rules
use Rattle.rules.specs.Sound.{Sound}
use Rattle.rules.proofs.Ranges.{L_below}
use Rattle.rules.proofs.Closing.{fresh_sound}
use Rattle.table.specs.Table.{table_of}
use Rattle.table.specs.declared.Table.{Table}
use Rattle.table.proofs.Facts.{tasks_count}
use Rattle.common.specs.declared.Common.{Common}
use Rattle.common.specs.Common.{job_of, last_of, last_as, common_of, common_as, Given}

abbrev task_of : rules.Job → ℕ
task_of j = j.task_of

jobs_back : (js : List rules.Job) → map job_of (map task_of js) ≡ js
jobs_back [] = refl
jobs_back (j ∷ js) = ap (λ l. j ∷ l) (jobs_back js)

kept_back : (js : List rules.Job) → map job_of (take (length js) (pad 256 0 (map task_of js))) ≡ js
kept_back js =
    let e : length (map task_of js) ≡ length js = length-map js task_of in
    ap (λ n. map job_of (take n (pad 256 0 (map task_of js)))) (sym e) ∙ ap (map job_of) (take_pad 256 0 (map task_of js)) ∙ jobs_back js

last_back : (o : Option ℕ) → last_of (last_as o) ≡ o
last_back none = refl
last_back (some l) = refl

pub common_back : (k : rules.Common) → common_of (common_as k) ≡ k
common_back k = λ i. record { kept = kept_back k.kept i; B = k.B; W = k.W; O = k.O; E = k.E; last = last_back k.last i }

-- What the rules give back is given back by value.
pub given : {t : Table} {k : rules.Common} → Sound (table_of t) k → Given t (common_as k)
given {t} {k} s = record { exact = ap common_as (sym (common_back k)); sound = subst (Sound (table_of t)) (sym (common_back k)) s }

pub same_common : {t : Table} {c : Common} → Given t c → common_as (common_of c) ≡ c
same_common g = sym g.exact

-- The numbers of a record that was given back: what code may rely on.
pub record Numbers (t : Table) (c : Common) : Type 0 where
  pub places : length c.tasks ≡ 256
  pub few : c.count ≤ 256
  pub base : c.base ≤ c.offset
  pub offset : c.offset ≤ c.base + c.count
  pub length_below : c.base + c.count ≤ 2 ^ 55
  pub start : c.start < 2 ^ 49
  pub earliest_places : length c.earliest ≡ 64
  pub earliest : (i : ℕ) → get_or c.earliest i 0 < 2 ^ 49
  pub last : (l : ℕ) → c.last ≡ Some l → l < 2 ^ 48
  pub task : (k : ℕ) → k < c.count → get_or c.tasks k 0 < t.count

module _ {t : Table} {c : Common} (g : Given t c) where
  pub kept_count : length (common_of c).kept ≡ c.count
  kept_count = sym (ap (λ (c : Common). c.count) g.exact)

  pub length_is : rules.L (common_of c) ≡ c.base + c.count
  length_is = ap (λ n. c.base + n) kept_count

  places : length c.tasks ≡ 256
  places =
      let e : length (map task_of (common_of c).kept) ≡ length (common_of c).kept = length-map (common_of c).kept task_of in
      ap (λ (c : Common). length c.tasks) g.exact ∙ length_pad 256 0 (map task_of (common_of c).kept) (omega (arith, e, g.sound.few))

  -- the job at a place is of the task there
  pub job_there : (k : ℕ) → k < c.count → (get_or (common_of c).kept k rules.no_job).task_of ≡ get_or c.tasks k 0
  job_there k h = ap task_of (get_or-map job_of (take c.count c.tasks) k 0) ∙ get_or-take c.count c.tasks k 0 h

  pub numbers : Numbers t c
  numbers = record {
    places = places;
    few = omega (arith, g.sound.few, kept_count);
    base = g.sound.base;
    offset = omega (arith, g.sound.offset, length_is);
    length_below = omega (arith, length_is, L_below g.sound);
    start = g.sound.W_below;
    earliest_places = g.sound.places;
    earliest = g.sound.E_below;
    last = λ l e. g.sound.last_below l (ap last_of e);
    task = λ k h. omega (arith, job_there k h, tasks_count t, g.sound.known k (omega (arith, kept_count)));
  }

-- "At the start all are 0 and no round has been."
pub given_fresh : (t : Table) → Given t (common_as rules.fresh)
given_fresh t = given (fresh_sound (table_of t))
