-- What a node by value stands for, and what the answers say.
use Rattle.std.specs.Prelude as code
use Rattle.std.specs.Prelude.{◌≡◌, Some, None, Bool, true, false, ◌&&◌, ◌||◌, [], ℕ, ◌+◌, ◌^◌, ◌≤◌, ◌<◌, max, if◌then◌else◌}
use Rattle.std.proofs.Math.Option.{Option, none, some}
use Rattle.laws.specs.Tests.{◌<?◌, ◌≤?◌, ◌=?◌, maybe}
use Rattle.rules.specs.Answer.{Answer, done, refused, refused_by, refuse◌if◌else◌, refuse◌naming◌else◌}
use Rattle.rules.specs.Judge as judges
use Rattle.rules.specs.Close.{too_late}
use Rattle.rules.specs.Table as tables
use Rattle.rules.specs.Common as commons
use Rattle.rules.specs.Common.{L, job_at, projection, breaker, within_bound}
use Rattle.rules.specs.Node as rules
use Rattle.rules.specs.Sound.{SoundNode}
use Rattle.table.specs.Table.{table_of, Checked}
use Rattle.table.specs.declared.Table.{Table}
use Rattle.round.specs.Round.{sent_report, report_as}
use Rattle.round.specs.declared.Report.{Report}
use Rattle.common.specs.declared.Common.{Common}
use Rattle.common.specs.Common.{common_of, common_as}
use Rattle.common.specs.Common as values
use Rattle.close.specs.declared.Closing.{Closing}
use Rattle.refusal.specs.Refusal.{told_as}
use Rattle.node.specs.declared.Sent.{Sent}
use Rattle.node.specs.declared.Node.{Node}
use Rattle.node.specs.declared.Started.{Started}
use Rattle.node.specs.declared.Reported.{Reported}
use Rattle.node.specs.declared.NodeClosing.{NodeClosing}

abbrev pub round_of : code.Option Sent → Option rules.Open
round_of None = none
round_of (Some o) = some (record { r = o.time; sent = sent_report o.report })

abbrev pub node_of : Node → rules.Node
node_of n = record {
  number = n.number;
  common = common_of n.common;
  progress = n.progress;
  completed = n.completed;
  running = n.running;
  latest = n.latest;
  round = round_of n.round;
}

abbrev pub round_as : Option rules.Open → code.Option Sent
round_as none = None
round_as (some o) = Some (record { time = o.r; report = report_as o.sent })

abbrev pub node_as : rules.Node → Node
node_as n = record {
  number = n.number;
  common = common_as n.common;
  progress = n.progress;
  completed = n.completed;
  running = n.running;
  latest = n.latest;
  round = round_as n.round;
}

-- A node that this library gave back under a table.
pub record Given (t : Table) (n : Node) : Type 0 where
  pub exact : n.common ≡ common_as (common_of n.common)
  pub sound : SoundNode (table_of t) (node_of n)

-- The same, under some table.
pub record Ours (n : Node) : Type 0 where
  pub t : Table
  pub given : Given t n

-- "beyond both O and the lock": what `beyond_lock` of the rules asks, of the numbers that it reads.
abbrev pub beyond_lock_at : Option rules.Open → ℕ → ℕ → Bool
beyond_lock_at o offset position = maybe false (λ o. (offset <? position) && (rules.lock o <? position)) o

-- What `broken_now` of the rules asks, of the numbers that it reads.
abbrev pub broken_at : tables.Table → commons.Common → Bool → ℕ → ℕ → Option ℕ
broken_at tab c opened position now = if opened || (position ≤? c.O) then none else breaker tab c position now

pub record Lockable (o : code.Option Sent) : Type 0 where
  pub small : (s : rules.Open) → round_of o ≡ some s → rules.lock s < 2 ^ 64

-- "start 3 to 9; finish 3, 4, 5, 10; report 3, 4, 5, 11": the first three, in that order.
abbrev pub clock_rule : ℕ → ℕ → ℕ → ℕ → Answer (Unit {0})
clock_rule latest progress base now = refuse 3 if too_late now else refuse 4 if now <? latest else refuse 5 if progress <? base else done tt

abbrev pub started_as : rules.Started → Started
started_as s = record { task = s.named; node = node_as s.node }

-- A start's answer, by document 01: "The reply to an accepted start names the task".
abbrev pub starting : Answer rules.Started → Answer Started
starting (done s) = done (started_as s)
starting (refused k) = refused k
starting (refused_by k i) = refused_by k i

-- A node that is asked, in time and not left behind, for its next position.
pub record Asking (t : Table) (n : Node) (now : ℕ) : Type 0 where
  pub table : Checked t
  pub given : Given t n
  pub base : n.common.base ≤ n.progress
  pub soon : now < 2 ^ 48

-- "start 3 to 9": the last four, in that order.
abbrev pub permission_rule : tables.Table → rules.Node → ℕ → Answer (Unit {0})
permission_rule tab n now =
    refuse 6 if n.running
    else refuse 7 if n.progress =? L n.common
    else refuse 8 if rules.beyond_lock n
    else refuse 9 naming rules.broken_now tab n now
    else done tt

-- A node whose next position exists.
pub record Startable (n : Node) : Type 0 where
  pub ours : Ours n
  pub base : n.common.base ≤ n.progress
  pub more : n.progress < L (common_of n.common)

abbrev pub started_now : Node → ℕ → Started
started_now n now = record {
  task = (job_at (common_of n.common) (n.progress + 1)).task_of;
  node = record {
    number = n.number;
    common = n.common;
    progress = n.progress;
    completed = n.completed;
    running = true;
    latest = now;
    round = n.round;
  };
}

-- What may be asked of a position that a node has reached, at a time.
pub record Reachable (t : Table) (c : Common) (progress r : ℕ) : Type 0 where
  pub table : Checked t
  pub common : values.Given t c
  pub from : c.base ≤ progress
  pub to : progress ≤ c.base + c.count
  pub soon : r < 2 ^ 48

-- What `next_soon` of the rules asks, of the numbers that it reads.
abbrev pub next_soon_at : tables.Table → commons.Common → ℕ → ℕ → Bool
next_soon_at tab c progress r =
    (progress + 1 ≤? L c) && ((progress + 1 ≤? c.O) || within_bound tab c (progress + 1) r) && (projection tab c progress <? r + tab.timeout)

abbrev pub reported_as : rules.Reported → Reported
reported_as s = record { report = report_as s.sent; node = node_as s.node }

abbrev pub reporting : Answer rules.Reported → Answer Reported
reporting = told_as reported_as

abbrev pub reported_now : Node → ℕ → ℕ → Reported
reported_now n r run =
    let e : Report = record { progress = n.progress; completed = n.completed; run = run } in
    record {
      report = e;
      node = record {
        number = n.number;
        common = n.common;
        progress = n.progress;
        completed = n.completed;
        running = n.running;
        latest = r;
        round = Some (record { time = r; report = e });
      };
    }

-- "close 5, 12, 13, then ..": the first three, in that order.
abbrev pub own_rule : rules.Node → judges.Round → Answer (Unit {0})
own_rule n q = refuse 5 if rules.left_behind n else refuse 12 if rules.other_round n q else refuse 13 if rules.not_as_sent n q else done tt

-- A close's answer: the reply as the common record's, and whether the node given back is left behind.
abbrev pub closed_as : rules.NodeClosed → NodeClosing
closed_as k = record {
  node = node_as k.node;
  classes = k.reply.classes;
  back = k.reply.back;
  majority = k.reply.notice;
  left = rules.left_behind k.node;
}

abbrev pub node_closing : Answer rules.NodeClosed → Answer NodeClosing
node_closing = told_as closed_as

-- The same from what the common record answered, where it accepted.
abbrev pub closed_now : Node → Closing → ℕ → NodeClosing
closed_now n c end = record {
  node = record {
    number = n.number;
    common = c.common;
    progress = n.progress;
    completed = n.completed;
    running = n.running;
    latest = max n.latest end;
    round = None;
  };
  classes = c.classes;
  back = c.back;
  majority = c.majority;
  left = n.progress <? c.common.base;
}
