-- What a close answers by value, and the steps to it on the arrays. That they lead to the rules' close is proved in proofs/Closed.antt.
use Rattle.std.specs.Prelude.{List, map, ℕ, ◌+◌, ◌-◌, ◌^◌, ◌≤◌, ◌<◌, take, drop, get_or}
use Rattle.std.proofs.Math.Option.{some}
use Rattle.laws.specs.Tests.{◌<?◌}
use Rattle.rules.specs.Answer.{Answer, done, refuse◌if◌else◌}
use Rattle.rules.specs.Common as rules
use Rattle.rules.specs.Close.{Closed}
use Rattle.refusal.specs.Refusal.{told_as}
use Rattle.common.specs.declared.Common.{Common}
use Rattle.common.specs.Common.{job_of, common_as}
use Rattle.round.specs.declared.Round.{Round}
use Rattle.round.specs.Round.{releases_of, no_release}
use Rattle.judge.specs.declared.Judgement.{Judgement}
use Rattle.close.specs.declared.Closing.{Closing}
use Rattle.release.specs.Insertion.{put_all, Packed}

-- The record after a round that was applied, and the reply.
abbrev pub closed_as : Closed → Closing
closed_as k = record { common = common_as k.common; classes = k.reply.classes; back = k.reply.back; majority = k.reply.notice }

-- "A refusal gives its number and changes nothing": there is no record beside it.
abbrev pub closing : Answer Closed → Answer Closing
closing = told_as closed_as

-- The record with a judgement's B, W and O, the jobs up to B dropped, the releases put in, and E as it is given.
unfoldable pub after : Common → Judgement → List ℕ → Round → rules.Common
after c j E q = record {
  kept = map job_of (put_all (j.offset - j.base) (drop (j.base - c.base) (take c.count c.tasks)) (releases_of q));
  B = j.base;
  W = j.start;
  O = j.offset;
  E = E;
  last = some q.time;
}

-- 17: "L + releases − new B > 256"; else all is done.
unfoldable pub conclusion : Common → Judgement → List ℕ → Round → Answer Closing
conclusion c j E q =
    refuse 17 if j.base + 256 <? c.base + c.count + q.listed
    else done (record { common = common_as (after c j E q); classes = j.classes; back = j.back; majority = j.majority })

-- A judgement of a record that was given back, and a list that passed 15.
pub record Judged (c : Common) (j : Judgement) (q : Round) : Type 0 where
  pub packed : Packed c.tasks c.count
  pub base : c.base ≤ j.base
  pub between : j.base ≤ j.offset
  pub within : j.offset ≤ c.base + c.count
  pub small : c.base + c.count ≤ 2 ^ 55
  pub listed : q.listed ≤ 64
  pub known : (i : ℕ) → i < q.listed → (get_or q.releases i no_release).task < 64

-- The same, and room for all: it passed 17.
pub record Fitting (c : Common) (j : Judgement) (q : Round) : Type 0 where
  pub judged : Judged c j q
  pub room : c.base + c.count + q.listed ≤ j.base + 256
