-- The common record.
use Rattle.std.specs.Prelude.{Bool, not, ◌&&◌, List, [], map, ℕ, ◌+◌, ◌-◌, max, length, take, get_or, replicate}
use Rattle.std.proofs.Math.Option.{Option, none}
use Rattle.laws.specs.Tests.{◌<?◌, found}
use Rattle.laws.specs.Search.{lowest}
use Rattle.laws.specs.Sums.{total}
use Rattle.rules.specs.Table.{Table, task}

pub record Job : Type 0 where
  pub task_of : ℕ

-- Where there is no job; nothing rests on it.
abbrev pub no_job : Job
no_job = record { task_of = 0 }

-- "It holds the jobs still kept, in order. B (base) the back-runner's progress, W its next start time, O the insertion offset,
-- E(i) the earliest next release of task i, and the last round's time." "Jobs at positions up to B are dropped": kept[0] stands at B + 1.
pub record Common : Type 0 where
  pub kept : List Job
  pub B : ℕ
  pub W : ℕ
  pub O : ℕ
  pub E : List ℕ
  pub last : Option ℕ

-- "At the start all are 0 and no round has been."
abbrev pub fresh : Common
fresh = record { kept = []; B = 0; W = 0; O = 0; E = replicate 64 0; last = none }

-- "Positions count from 1 over the whole history. L is the last position."
abbrev pub L : Common → ℕ
L c = c.B + length c.kept

-- The job at a position past B.
abbrev pub job_at : Common → ℕ → Job
job_at c p = get_or c.kept (p - c.B - 1) no_job

-- "Task 0 has the highest priority": the one comparison of priorities, of task i released at time t with a job. Fixed priorities read the numbers alone.
abbrev pub higher : Table → ℕ → ℕ → Job → Bool
higher tab i t j = i <? j.task_of

-- "Earliest release at t: the larger of E(i) and t."
unfoldable pub earliest : Common → ℕ → ℕ → ℕ
earliest c i t = max (get_or c.E i 0) t

-- "Projection of position p ≥ B: W plus the C of every job from B + 1 to p. Of B it is W."
unfoldable pub projection : Table → Common → ℕ → ℕ
projection tab c p = c.W + total (map (λ j. (task tab j.task_of).C) (take (p - c.B) c.kept))

-- "Bound for position p at time t: for every task i of higher priority than the job there, projection(p) ≤ earliest release of i at t, plus S(i).
-- Every such task counts, queued or not." So task i breaks it at p:
unfoldable pub breaks : Table → Common → ℕ → ℕ → ℕ → Bool
breaks tab c p t i = higher tab i (earliest c i t) (job_at c p) && (earliest c i t + (task tab i).S <? projection tab c p)

-- 9: "the lowest-numbered task that breaks it"
unfoldable pub breaker : Table → Common → ℕ → ℕ → Option ℕ
breaker tab c p t = lowest (breaks tab c p t) (length tab.tasks)

abbrev pub within_bound : Table → Common → ℕ → ℕ → Bool
within_bound tab c p t = not (found (breaker tab c p t))
