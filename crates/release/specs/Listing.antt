-- What the check of one release in its list answers, and what 3 and 15 leave.
use Rattle.std.specs.Prelude.{false, [], ◌∷◌, ◌≡◌, ℕ, ◌^◌, ◌<◌}
use Rattle.laws.specs.Tests.{◌<?◌, ◌≤?◌, any_of}
use Rattle.rules.specs.Answer.{Answer, done, refuse◌if◌else◌}
use Rattle.rules.specs.Judge.{Release}
use Rattle.rules.specs.Close.{ill_formed}
use Rattle.table.specs.declared.Table.{Table}
use Rattle.table.specs.Table.{table_of, Checked}
use Rattle.round.specs.declared.Round.{Round}
use Rattle.round.specs.Round.{round_of}

-- 15: "unknown task, delay ≥ timeout, or delays that fall"
unfoldable pub listing : ℕ → ℕ → ℕ → Release → Answer ℕ
listing count timeout least x =
    refuse 15 if any_of ((count ≤? x.task_of) ∷ (timeout ≤? x.delay) ∷ (x.delay <? least) ∷ []) else done x.delay

-- A record under a checked table that passed 3 and 15.
pub record Listable (t : Table) (q : Round) : Type 0 where
  pub checked : Checked t
  pub in_time : q.time < 2 ^ 48
  pub formed : ill_formed (table_of t) (round_of q) ≡ false
