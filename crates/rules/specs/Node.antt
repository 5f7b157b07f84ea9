-- What a node does.
use Rattle.std.specs.Prelude.{Bool, true, false, not, ◌&&◌, ◌||◌, ℕ, ◌+◌, max, get_or, if◌then◌else◌}
use Rattle.std.proofs.Math.Option.{Option, none, some}
use Rattle.laws.specs.Tests.{◌<?◌, ◌≤?◌, ◌=?◌, found, maybe}
use Rattle.rules.specs.Answer.{Answer, done, ◌>>=◌, refuse◌if◌else◌, refuse◌naming◌else◌}
use Rattle.rules.specs.Table.{Table}
use Rattle.rules.specs.Common.{Common, fresh, L, job_at, projection, breaker, within_bound}
use Rattle.rules.specs.Judge.{Report, Round}
use Rattle.rules.specs.Close.{too_late, Verdict, Closed, close}

-- "possibly an open round with a lock": its time, and what was sent for it.
pub record Open : Type 0 where
  pub r : ℕ
  pub sent : Report

-- "A node has progress (finished jobs), completion time of the last (0 at first), a running mark, its latest time, and possibly an open
-- round with a lock." It has its number, and a common record of its own.
pub record Node : Type 0 where
  pub number : ℕ
  pub common : Common
  pub progress : ℕ
  pub completed : ℕ
  pub running : Bool
  pub latest : ℕ
  pub round : Option Open

-- "A fresh one has zeros, no mark and no round."
abbrev pub new_node : ℕ → Node
new_node i = record { number = i; common = fresh; progress = 0; completed = 0; running = false; latest = 0; round = none }

-- 1: "node number ≥ m"
unfoldable pub fresh_node : Table → ℕ → Answer Node
fresh_node tab i = refuse 1 if tab.m ≤? i else done (new_node i)

-- "If then progress < B, the node is left behind for good." Only its own closes move its B, and a node that is left behind closes no more.
abbrev pub left_behind : Node → Bool
left_behind n = n.progress <? n.common.B

-- "The lock is progress + run."
abbrev pub lock : Open → ℕ
lock o = o.sent.progress + o.sent.run

-- 8: "start while a round is open, beyond both O and the lock"
unfoldable pub beyond_lock : Node → Bool
beyond_lock n = maybe false (λ o. (n.common.O <? n.progress + 1) && (lock o <? n.progress + 1)) n.round

-- 9: "bound broken, with the lowest-numbered task that breaks it". "Permitted if the position is ≤ O, or ≤ the lock while a round is open, or,
-- with no round open, if the bound holds now": it is asked with no round open, and past O.
unfoldable pub broken_now : Table → Node → ℕ → Option ℕ
broken_now tab n now =
    if found n.round || (n.progress + 1 ≤? n.common.O) then none else breaker tab n.common (n.progress + 1) now

pub record Started : Type 0 where
  pub node : Node
  pub named : ℕ

-- "Start, position progress + 1. The reply to an accepted start names the task of the job that stands there at that moment."
-- "Each accepted start makes its own time the latest; a start raises the mark." "Order: start 3 to 9"
unfoldable pub start : Table → Node → ℕ → Answer Started
start tab n now =
    refuse 3 if too_late now
    else refuse 4 if now <? n.latest
    else refuse 5 if left_behind n
    else refuse 6 if n.running
    else refuse 7 if n.progress =? L n.common
    else refuse 8 if beyond_lock n
    else refuse 9 naming broken_now tab n now
    else done (record {
      node = record {
        number = n.number;
        common = n.common;
        progress = n.progress;
        completed = n.completed;
        running = true;
        latest = now;
        round = n.round;
      };
      named = (job_at n.common (n.progress + 1)).task_of;
    })

-- "Finish: progress grows by one, the completion time is now, the mark falls." "finish 3, 4, 5, 10"
unfoldable pub finish : Node → ℕ → Answer Node
finish n now =
    refuse 3 if too_late now
    else refuse 4 if now <? n.latest
    else refuse 5 if left_behind n
    else refuse 10 if not n.running
    else done (record {
      number = n.number;
      common = n.common;
      progress = n.progress + 1;
      completed = now;
      running = false;
      latest = now;
      round = n.round;
    })

-- "It is also 1 if position progress + 1 exists, is ≤ O or within the bound at r, and projection(progress) < r + timeout."
unfoldable pub next_soon : Table → Node → ℕ → Bool
next_soon tab n r =
    (n.progress + 1 ≤? L n.common)
    && ((n.progress + 1 ≤? n.common.O) || within_bound tab n.common (n.progress + 1) r)
    && (projection tab n.common n.progress <? r + tab.timeout)

-- "Report at the round time r gives (progress, completion time, run). Run is 1 if a job runs. It is also 1 if .. Otherwise it is 0."
unfoldable pub report_of : Table → Node → ℕ → Report
report_of tab n r = record { progress = n.progress; completed = n.completed; run = if n.running || next_soon tab n r then 1 else 0 }

pub record Reported : Type 0 where
  pub node : Node
  pub sent : Report

-- "a report opens the round", and makes r the latest time. "report 3, 4, 5, 11"
unfoldable pub report : Table → Node → ℕ → Answer Reported
report tab n r =
    refuse 3 if too_late r
    else refuse 4 if r <? n.latest
    else refuse 5 if left_behind n
    else refuse 11 if found n.round
    else done (record {
      node = record {
        number = n.number;
        common = n.common;
        progress = n.progress;
        completed = n.completed;
        running = n.running;
        latest = r;
        round = some (record { r = r; sent = report_of tab n r });
      };
      sent = report_of tab n r;
    })

-- 12: "close with no round open, or another r"
abbrev pub other_round : Node → Round → Bool
other_round n q = maybe true (λ o. not (o.r =? q.r)) n.round

abbrev pub as_sent : Report → Option Report → Bool
as_sent e none = false
as_sent e (some d) = (e.progress =? d.progress) && (e.completed =? d.completed) && (e.run =? d.run)

-- 13: "own entry absent or not as sent"
abbrev pub not_as_sent : Node → Round → Bool
not_as_sent n q = maybe true (λ o. not (as_sent o.sent (get_or q.entries n.number none))) n.round

pub record NodeClosed : Type 0 where
  pub node : Node
  pub reply : Verdict

-- "Close applies the round record, lifts the lock and sets the latest time to the larger of itself and r + timeout."
abbrev pub node_closed : Table → Node → Round → Closed → NodeClosed
node_closed tab n q k = record {
  node = record {
    number = n.number;
    common = k.common;
    progress = n.progress;
    completed = n.completed;
    running = n.running;
    latest = max n.latest (q.r + tab.timeout);
    round = none;
  };
  reply = k.reply;
}

-- "close 5, 12, 13, then 3, 14, 15, 16, 17". "An open round whose record was refused stays open."
unfoldable pub node_close : Table → Node → Round → Answer NodeClosed
node_close tab n q =
    refuse 5 if left_behind n
    else refuse 12 if other_round n q
    else refuse 13 if not_as_sent n q
    else close tab n.common q >>= λ k. done (node_closed tab n q k)
