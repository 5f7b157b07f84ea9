-- The words of a common record, and which words are those of one.
use Rattle.std.specs.Prelude.{Option, Some, None, unwrap_or, Bool, not, ◌||◌, List, [], ◌∷◌, ◌++◌, map, ℕ, ◌+◌, ◌^◌, length, take, drop, get_or, if◌then◌else◌}
use Rattle.laws.specs.Tests.{◌<?◌, ◌≤?◌, ◌=?◌, all_of, found}
use Rattle.laws.specs.Sums.{total}
use Rattle.rules.specs.Answer.{Answer, done, refuse◌if◌else◌}
use Rattle.table.specs.declared.Table.{Table}
use Rattle.common.specs.declared.Common.{Common}
use Rattle.common.specs.Common.{last_of}

-- A mark as a word.
abbrev pub mark : Bool → ℕ
mark b = if b then 1 else 0

-- B, W, O, how many jobs are kept, whether a round has been and its time; E; the tasks of the jobs kept.
unfoldable pub common_words : Common → List ℕ
common_words c = c.base ∷ c.start ∷ c.offset ∷ c.count ∷ mark (found (last_of c.last)) ∷ unwrap_or c.last 0 ∷ (c.earliest ++ c.tasks)

-- "The last round's time", where a round has been.
abbrev pub last_in : ℕ → ℕ → Option ℕ
last_in begun last = if begun =? 1 then Some last else None

-- The record at the same places.
unfoldable pub common_in : List ℕ → Common
common_in ws = record {
  tasks = take 256 (drop 70 ws);
  count = get_or ws 3 0;
  base = get_or ws 0 0;
  start = get_or ws 1 0;
  offset = get_or ws 2 0;
  earliest = take 64 (drop 6 ws);
  last = last_in (get_or ws 4 0) (get_or ws 5 0);
}

unfoldable pub all_below : ℕ → List ℕ → Bool
all_below limit l = all_of (map (λ x. x <? limit) l)

-- A mark, a time, W and a count: "no round has been", and then `last` holds 0; "at most 256 are kept".
unfoldable pub small_common : ℕ → ℕ → ℕ → ℕ → Bool
small_common begun last start count =
    all_of ((begun ≤? 1) ∷ ((begun =? 1) || (last =? 0)) ∷ (last <? 2 ^ 48) ∷ (start <? 2 ^ 49) ∷ (count ≤? 256) ∷ [])

-- "Always B ≤ O ≤ L", and L is at most what was released: the sum of E.
unfoldable pub in_place : ℕ → ℕ → ℕ → ℕ → Bool
in_place base offset count released = all_of ((base ≤? offset) ∷ (offset ≤? base + count) ∷ (base + count ≤? released) ∷ [])

-- The jobs kept are of tasks of the table, and places not used hold 0.
unfoldable pub known_tasks : ℕ → ℕ → List ℕ → Bool
known_tasks number count tasks = all_of (all_below number (take count tasks) ∷ all_below 1 (drop count tasks) ∷ [])

-- What holds of every record that this library gives back: `Given` as a test.
unfoldable pub known_common : Table → List ℕ → Bool
known_common t ws =
    let c = common_in ws in
    all_of (
    small_common (get_or ws 4 0) (get_or ws 5 0) c.start c.count
    ∷ all_below (2 ^ 49) c.earliest
    ∷ in_place c.base c.offset c.count (total c.earliest)
    ∷ known_tasks t.count c.count c.tasks ∷ [])

-- 100: "a lent array has another length than the call states"; 102: "the state is none that this library writes under this table".
unfoldable pub common_at : Table → List ℕ → Answer Common
common_at t ws = refuse 100 if not (length ws =? 326) else refuse 102 if not (known_common t ws) else done (common_in ws)
