-- What is asked of a stretch of words.
use Rattle.std.specs.Prelude.{List, ℕ, ◌+◌, ◌<◌, get_or}

-- The n words from a place on are bytes, as the tasks of the jobs kept are: "1 to 64 tasks".
pub record BytesIn (n from : ℕ) (words : List ℕ) : Type 0 where
  pub byte : (k : ℕ) → k < n → get_or words (from + k) 0 < 256
