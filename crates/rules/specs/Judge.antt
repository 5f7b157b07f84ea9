-- How a round is judged. "The values of B, W, O, L, E before the round are used."
use Rattle.std.specs.Prelude.{Bool, ◌&&◌, ◌||◌, ℕ, ◌+◌, ◌-◌, ◌/◌, max, min, length, get_or, if◌then◌else◌}
use Rattle.std.proofs.Math.Option.{Option, none, some}
use mathlib.Core.List.{List, [], ◌∷◌, foldr}
use Rattle.laws.specs.Tests.{◌<?◌, ◌≤?◌, ◌=?◌, any_of, found}
use Rattle.laws.specs.Search.{lowest, number_of}
use Rattle.rules.specs.Table.{Table}
use Rattle.rules.specs.Common.{Common, L, projection, breaker}

-- "(progress, completion time, run)"
pub record Report : Type 0 where
  pub progress : ℕ
  pub completed : ℕ
  pub run : ℕ

-- "releases (task, delay after r)"
pub record Release : Type 0 where
  pub task_of : ℕ
  pub delay : ℕ

-- "A record has r, 0 to 64 releases (task, delay after r) and m entries, each missing or (progress, completion time, run)."
pub record Round : Type 0 where
  pub r : ℕ
  pub releases : List Release
  pub entries : List (Option Report)

-- A missing entry has no numbers; zeros stand for them here, and nothing rests on that.
abbrev pub numbers : Option Report → Report
numbers none = record { progress = 0; completed = 0; run = 0 }
numbers (some e) = e

module _ (tab : Table) (c : Common) (r : ℕ) where
  -- 2: "run above 1, progress + run > L (as whole numbers), or completion time > r"
  unfoldable pub malformed : Report → Bool
  malformed e = any_of ((1 <? e.run) ∷ (L c <? e.progress + e.run) ∷ (r <? e.completed) ∷ [])

  -- 3: "progress < B"
  abbrev pub behind : Report → Bool
  behind e = e.progress <? c.B

  -- 4: "some position from O + 1 to progress + run breaks the bound at r"
  unfoldable pub over_bound : Report → Bool
  over_bound e = found (lowest (λ k. found (breaker tab c (c.O + 1 + k) r)) (e.progress + e.run - c.O))

  -- 5: "completion time > projection(progress), or progress < O and projection(progress + 1) < r"
  unfoldable pub late : Report → Bool
  late e = (projection tab c e.progress <? e.completed) || ((e.progress <? c.O) && (projection tab c (e.progress + 1) <? r))

  -- "Each entry gets the first class that fits"
  unfoldable pub class : Option Report → ℕ
  class none = 1
  class (some e) = if malformed e then 2 else if behind e then 3 else if over_bound e then 4 else if late e then 5 else 0

  -- "classes 0 and 5"
  abbrev pub counts : Option Report → Bool
  counts x = (class x =? 0) || (class x =? 5)

  -- "New O: the largest of old O and progress + run over classes 0 and 5."
  abbrev pub reach : Option Report → ℕ → ℕ
  reach x o = if counts x then max ((numbers x).progress + (numbers x).run) o else o

  unfoldable pub new_O : List (Option Report) → ℕ
  new_O es = foldr reach c.O es

  -- "Back-runner: among class 0 the least progress". (It is at most L, so the search for it begins there.)
  abbrev pub rear : Option Report → ℕ → ℕ
  rear x b = if class x =? 0 then min (numbers x).progress b else b

  unfoldable pub least_progress : List (Option Report) → ℕ
  least_progress es = foldr rear (L c) es

  -- "Its start is r + timeout where its progress = L, else its reported completion time."
  unfoldable pub start_of : Report → ℕ
  start_of e = if e.progress =? L c then r + tab.timeout else e.completed

  abbrev pub at_rear : ℕ → Option Report → Bool
  at_rear b x = (class x =? 0) && ((numbers x).progress =? b)

  -- "Among equal progress the largest start counts."
  abbrev pub latest_start : ℕ → Option Report → ℕ → ℕ
  latest_start b x s = if at_rear b x then max (start_of (numbers x)) s else s

  unfoldable pub largest_start : ℕ → List (Option Report) → ℕ
  largest_start b es = foldr (latest_start b) 0 es

  -- "The nodes that reach it form a set"
  abbrev pub reaches : ℕ → ℕ → Option Report → Bool
  reaches b s x = at_rear b x && (start_of (numbers x) =? s)

  unfoldable pub in_set : List (Option Report) → ℕ → Bool
  in_set es i = reaches (least_progress es) (largest_start (least_progress es) es) (get_or es i none)

  -- "the back-runner is the lowest-numbered node of that set."
  unfoldable pub back_runner : List (Option Report) → Option ℕ
  back_runner es = lowest (in_set es) (length es)

  -- "if there is none, B and W stay." "New B is its progress, new W the larger of old W and its start."
  unfoldable pub new_B : List (Option Report) → ℕ
  new_B es = if found (back_runner es) then least_progress es else c.B

  unfoldable pub new_W : List (Option Report) → ℕ
  new_W es = if found (back_runner es) then max c.W (largest_start (least_progress es) es) else c.W

  -- "whether the number of nodes in class 0 or 5 is at least half of m, rounded down, plus 1. This last is a notice only."
  unfoldable pub majority : List (Option Report) → Bool
  majority es = tab.m / 2 + 1 ≤? number_of counts es
