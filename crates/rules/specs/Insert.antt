-- "Then each release goes in, in list order."
use Rattle.std.specs.Prelude.{not, ℕ, ◌+◌, ◌-◌, take, drop, set}
use mathlib.Core.List.{List, ◌∷◌, ◌++◌, foldl}
use Rattle.laws.specs.Search.{up_to_last}
use Rattle.rules.specs.Table.{Table, task}
use Rattle.rules.specs.Common.{Job, Common, higher}
use Rattle.rules.specs.Judge.{Release}

-- "past O, behind the last job there of the same or higher priority, ahead of the rest. With none such it stands at O + 1."
-- Of n jobs up to O, then the rest: where a job of task i, released at t, goes in.
unfoldable pub place : Table → ℕ → ℕ → ℕ → List Job → ℕ
place tab i t n jobs = n + up_to_last (λ j. not (higher tab i t j)) (drop n jobs)

unfoldable pub insert : Table → ℕ → ℕ → ℕ → List Job → List Job
insert tab i t n jobs =
    let at = place tab i t n jobs in
    take at jobs ++ (record { task_of = i } ∷ drop at jobs)

-- "E(task) becomes release time + T."
abbrev pub next_E : Table → ℕ → List ℕ → Release → List ℕ
next_E tab r E x = set E x.task_of (r + x.delay + (task tab x.task_of).T)

unfoldable pub release : Table → ℕ → Common → Release → Common
release tab r c x = record {
  kept = insert tab x.task_of (r + x.delay) (c.O - c.B) c.kept;
  B = c.B;
  W = c.W;
  O = c.O;
  E = next_E tab r c.E x;
  last = c.last;
}

unfoldable pub release_all : Table → ℕ → Common → List Release → Common
release_all tab r c xs = foldl (release tab r) c xs
