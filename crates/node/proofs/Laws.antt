-- Laws of the node by value: the way back from the rules' node, and what is known of a node that was given back.
use mathlib.Core.Path.{◌≡◌, refl, sym, ap, ◌∙◌}
use mathlib.Core.Bool.{Bool, true, false}
use mathlib.Core.Logic.{⊎_elim}
use Prim.Native.Nat.{ℕ, ◌+◌, ◌-◌, ◌^◌, ◌≤◌, ◌<◌}
use native.Mathlib.Nat.{eq-or-lt_of_le}
use native.Mathlib.Omega.{arith}
use lib.ListN.{get_or}
use Rattle.std.specs.Prelude as code
use Rattle.std.specs.Prelude.{Some, None}
use Rattle.rules.specs.Answer.{Answer, refused, refuse◌if◌else◌}
use Rattle.rules.specs.Common.{no_job, job_at}
use Rattle.table.specs.declared.Table.{Table}
use Rattle.common.specs.declared.Common.{Common}
use Rattle.common.specs.Common.{common_of, common_as}
use Rattle.common.specs.Common as commons
use Rattle.common.proofs.Records.{length_is, numbers, job_there}
use Rattle.node.specs.declared.Sent.{Sent}
use Rattle.node.specs.declared.Node.{Node}
use Rattle.node.specs.Node.{round_of, round_as, node_as, Given, Lockable, Startable}

pub round_back : (o : code.Option Sent) → round_as (round_of o) ≡ o
round_back None = refl
round_back (Some s) = refl

-- a node with what a start, a finish or a report changes in it
pub rebuilt : (n : Node) → n.common ≡ common_as (common_of n.common) → (progress completed : ℕ) (running : Bool) (latest : ℕ) (o : code.Option Sent)
    → record {
      number = n.number;
      common = n.common;
      progress = progress;
      completed = completed;
      running = running;
      latest = latest;
      round = o;
    }
    ≡ node_as (record {
      number = n.number;
      common = common_of n.common;
      progress = progress;
      completed = completed;
      running = running;
      latest = latest;
      round = round_of o;
    })
rebuilt n e progress completed running latest o =
    λ i. record {
      number = n.number;
      common = e i;
      progress = progress;
      completed = completed;
      running = running;
      latest = latest;
      round = sym (round_back o) i;
    }

-- the common record of a node that was given back
pub common_given : {t : Table} {n : Node} → Given t n → commons.Given t n.common
common_given v = record { exact = v.exact; sound = v.sound.common }

-- a node has finished no job that does not exist
pub progress_within : {t : Table} {n : Node} → Given t n → n.progress ≤ n.common.base + n.common.count
progress_within v = omega (arith, v.sound.progress, length_is (common_given v))

-- what fits: the length, the next position, and the lock of a round that is open
pub length_fits : {t : Table} {c : Common} → commons.Given t c → c.base + c.count < 2 ^ 64
length_fits g = omega (arith, (numbers g).length_below)

pub progress_fits : {t : Table} {n : Node} → Given t n → n.progress + 1 < 2 ^ 64
progress_fits v = omega (arith, progress_within v, (numbers (common_given v)).length_below)

pub lockable : {t : Table} {n : Node} → Given t n → Lockable n.round
lockable v =
    let g = common_given v in
    record { small = λ o e. let s = v.sound.round o e in omega (arith, s.progress, s.run, length_is g, (numbers g).length_below) }

pub lock_fits : {o : code.Option Sent} {s : Sent} → Lockable o → o ≡ Some s → s.report.progress + s.report.run < 2 ^ 64
lock_fits v g = v.small _ (ap round_of g)

-- the task of the job that stands at the next position
pub named : {n : Node} → Startable n → (job_at (common_of n.common) (n.progress + 1)).task_of ≡ get_or n.common.tasks (n.progress - n.common.base) 0
named {n} v =
    let g = common_given v.ours.given in
    let e : n.progress + 1 - n.common.base - 1 ≡ n.progress - n.common.base = omega (arith, v.base) in
    ap (λ (k : ℕ). (get_or (common_of n.common).kept k no_job).task_of) e
    ∙ job_there g (n.progress - n.common.base) (omega (arith, v.base, v.more, length_is g))

-- a rung of a ladder
module _ {A : Type 0} (k : ℕ) (rest : Answer A) where
  pub stopped : {b : Bool} → b ≡ true → (refuse k if b else rest) ≡ refused k
  stopped e = ap (λ (b : Bool). refuse k if b else rest) e

  pub passed : {b : Bool} → b ≡ false → (refuse k if b else rest) ≡ rest
  passed e = ap (λ (b : Bool). refuse k if b else rest) e

pub strictly : {a b : ℕ} → a ≤ b → (a ≡ b → ⊥) → a < b
strictly h d = ⊎_elim (λ e. absurd (d e)) (λ l. l) (eq-or-lt_of_le h)
