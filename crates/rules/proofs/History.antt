-- Over any run of accepted records: the ranges always hold, nothing falls, and a position up to O keeps its job for good.
use mathlib.Core.Path.{◌≡◌, refl, sym, ap, ◌∙◌}
use mathlib.Core.List.{List}
use Prim.Native.Nat.{ℕ, ◌+◌, ◌-◌, ◌≤◌, ◌<◌}
use native.Mathlib.Omega.{arith}
use lib.ListN.{drop, get_or}
use lib.Seq.{get_or-take, get_or-drop}
use Rattle.rules.specs.Answer.{done}
use Rattle.rules.specs.Table.{Table}
use Rattle.rules.specs.Common.{Job, Common, no_job, fresh, L, job_at}
use Rattle.rules.specs.Judge.{Round}
use Rattle.rules.specs.Close.{Closed, close}
use Rattle.rules.specs.Sound.{Sound}
use Rattle.rules.proofs.Tables.{Fit}
use Rattle.rules.proofs.Closing.{Onward, close_keeps, fresh_sound}

-- a position past the new base and up to the new offset keeps its job
pub job_stays : {c d : Common} → Onward c d → (p : ℕ) → d.B < p → p ≤ d.O → job_at d p ≡ job_at c p
job_stays {c} {d} o p b l =
    let i : p - d.B - 1 < d.O - d.B = omega arith in
    let e : d.B - c.B + (p - d.B - 1) ≡ p - c.B - 1 = omega (arith, o.base) in
    sym (get_or-take (d.O - d.B) d.kept (p - d.B - 1) no_job i)
    ∙ ap (λ (js : List Job). get_or js (p - d.B - 1) no_job) o.order
    ∙ get_or-take (d.O - d.B) (drop (d.B - c.B) c.kept) (p - d.B - 1) no_job i
    ∙ get_or-drop (d.B - c.B) c.kept (p - d.B - 1) no_job
    ∙ ap (λ (n : ℕ). get_or c.kept n no_job) e

-- accepted records, one after the other, from one common record to another
pub data Run (tab : Table) : Common → Common → Type 0 where
  none_yet : {c : Common} → Run tab c c
  then : {c d : Common} {k : Closed} → Run tab c d → (q : Round) → close tab d q ≡ done k → Run tab c k.common

pub record Held (tab : Table) (c d : Common) : Type 0 where
  pub sound : Sound tab d
  pub base : c.B ≤ d.B
  pub start : c.W ≤ d.W
  pub offset : c.O ≤ d.O
  pub grows : L c ≤ L d
  pub earliest : (i : ℕ) → get_or c.E i 0 ≤ get_or d.E i 0
  pub order : (p : ℕ) → d.B < p → p ≤ c.O → job_at d p ≡ job_at c p

pub run_holds : {tab : Table} {c d : Common} → Fit tab → Sound tab c → Run tab c d → Held tab c d
run_holds f s none_yet = record {
  sound = s;
  base = omega arith;
  start = omega arith;
  offset = omega arith;
  grows = omega arith;
  earliest = λ i. omega arith;
  order = λ p b l. refl;
}
run_holds {tab} {c} f s (then {k = k} u q h) =
    let v = run_holds f s u in
    let w = close_keeps q f v.sound h in
    let o = w.onward in
    record {
      sound = w.sound;
      base = omega (arith, v.base, o.base);
      start = omega (arith, v.start, o.start);
      offset = omega (arith, v.offset, o.offset);
      grows = omega (arith, v.grows, o.grows);
      earliest = λ i. omega (arith, v.earliest i, w.earliest i);
      order = λ p b l. job_stays o p b (omega (arith, v.offset, o.offset)) ∙ v.order p (omega (arith, o.base)) l;
    }

-- "Always B ≤ O ≤ L", "at most 256 are kept", from the start on
pub always : {tab : Table} {d : Common} → Fit tab → Run tab fresh d → Sound tab d
always {tab} f u = (run_holds f (fresh_sound tab) u).sound
