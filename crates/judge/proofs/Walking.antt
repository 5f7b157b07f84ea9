-- The walk over the order may be asked of a checked table and a record that was given back, and what it answers.
use mathlib.Core.Path.{◌≡◌, ap}
use mathlib.Core.Bool.{Bool}
use mathlib.Core.List.{List}
use Prim.Native.Nat.{ℕ, ◌+◌, ◌-◌, ◌^◌, ◌≤◌, ◌<◌}
use native.Mathlib.Omega.{arith}
use mir.Val.{Fits}
use mir.Syntax.{w64}
use lib.ListN.{get_or}
use Rattle.table.specs.declared.Table.{Table}
use Rattle.table.specs.Table.{Checked}
use Rattle.table.proofs.Facts.{ranges}
use Rattle.common.specs.declared.Common.{Common}
use Rattle.common.specs.Common.{Given}
use Rattle.common.specs.Raw.{Summable, Boundable}
use Rattle.common.proofs.Records as record_of
use Rattle.common.proofs.Raw.{summable}
use Rattle.laws.specs.Search.{first_from}
use Rattle.laws.proofs.First.{first_says}
use Rattle.walk.specs.declared.Walked.{Walked}
use Rattle.walk.specs.Walk.{walked_to, broken_at}
use Rattle.judge.specs.Lent.{clear_places, prepared}

module _ {t : Table} {c : Common} (k : Checked t) (g : Given t c) where
  pub start_small : c.start < 2 ^ 49
  start_small = (record_of.numbers g).start

  -- the sums may begin at any small number
  pub may_sum : {w : ℕ} → w < 2 ^ 49 → Summable t.longest c.tasks w c.count
  may_sum h =
      let s = summable k g c.count (omega arith) in
      record { few = s.few; known = s.known; small = s.small; soon = h }

  pub slack_small : (i : ℕ) → i < t.count → get_or t.slack i 0 ≤ 4294967295
  slack_small = (ranges k).slack

  -- the bound may be tried with any small numbers for the slack, and against the first of the tasks
  pub may_bound : {xs : List ℕ} → ((i : ℕ) → i < t.count → get_or xs i 0 ≤ 4294967295) → {n r : ℕ} → n ≤ t.count → r < 2 ^ 48 → Boundable c.earliest xs n r
  may_bound s h l = record { few = omega (arith, (ranges k).few); soon = λ i q. (record_of.numbers g).earliest i; small = λ i q. s i (omega arith); time = omega arith }

  pub from_within : c.offset - c.base ≤ c.count
  from_within = omega (arith, (record_of.numbers g).base, (record_of.numbers g).offset)

  -- a place among those kept is a position that fits
  pub clear_fits : (f : ℕ → Bool) (from : ℕ) → from ≤ c.count → (longest tasks : List ℕ) (start : ℕ)
      → {w : Walked} → w ≡ walked_to longest tasks start (first_from f from c.count) → Fits w64 (c.base + w.clear)
  clear_fits f from l longest tasks start p =
      record { fits = omega (arith, ap (λ (w : Walked). w.clear) p, (first_says f c.count from l).up, (record_of.numbers g).length_below) }

  pub prepared_is : (r : ℕ) {w : Walked}
      → w ≡ walked_to t.longest c.tasks c.start
      (first_from (broken_at t.longest c.tasks c.start c.earliest t.slack t.count r) (c.offset - c.base) c.count)
      → record {
        ends = w.ends;
        before = record { base = c.base; offset = c.offset; kept = c.count; time = r; timeout = t.timeout; clear = c.base + w.clear };
      }
      ≡ prepared t c r
  unfolding clear_places
  prepared_is r p = λ i. record {
    ends = (p i).ends;
    before = record { base = c.base; offset = c.offset; kept = c.count; time = r; timeout = t.timeout; clear = c.base + (p i).clear };
  }
