-- The lines from the numbers that a caller has in hand.
use Rattle.std.specs.Prelude.{List, ◌++◌, map, ℕ, ◌+◌, ◌<◌, get_or}
use Rattle.rules.specs.Common.{Job}
use Rattle.rules.specs.Session.{ascii, decimal}

-- Numbers of one digit each, as the classes are.
pub record Digits (ds : List ℕ) : Type 0 where
  pub each : (k : ℕ) → get_or ds k 0 < 10

-- "r, O, B, L, W after the round"
unfoldable pub numbers_text : ℕ → ℕ → ℕ → ℕ → ℕ → List ℕ
numbers_text r O B L W =
    ascii "round " ++ decimal r ++ ascii " ipo " ++ decimal O ++ ascii " base " ++ decimal B ++ ascii " length " ++ decimal L ++ ascii " toc " ++ decimal W

-- "the m classes" behind them
unfoldable pub round_text : ℕ → ℕ → ℕ → ℕ → ℕ → List ℕ → List ℕ
round_text r O B L W classes = numbers_text r O B L W ++ ascii " nodes " ++ map (λ d. 48 + d) classes ++ ascii "\n"

-- "position:task of each job kept, blank between"
unfoldable pub job_text : ℕ → ℕ → List ℕ
job_text position task = ascii " " ++ decimal position ++ ascii ":" ++ decimal task

-- The jobs of these tasks.
abbrev pub jobs_of : List ℕ → List Job
jobs_of tasks = map (λ i. record { task_of = i }) tasks
