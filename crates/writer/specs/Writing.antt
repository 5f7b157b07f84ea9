-- A record's numbers, on the way to its bytes.
use Rattle.std.specs.Prelude.{ℕ, length, if◌then◌else◌}
use mathlib.Core.List.{List, [], ◌∷◌, foldr}
use Rattle.rules.specs.Answer.{Answer, done, refused}
use Rattle.rules.specs.Judge as rules
use Rattle.rules.specs.Written.{bytes_of, too_large}
use Rattle.round.specs.declared.Round.{Round}
use Rattle.round.specs.Round.{releases_of}

-- What is written before the entries.
abbrev pub head_numbers : Round → List ℕ
head_numbers q = q.time ∷ q.listed ∷ foldr (λ (x : rules.Release) (ns : List ℕ). x.task_of ∷ x.delay ∷ ns) (q.entered ∷ []) (releases_of q)

-- How many bytes they take; 22: "value of 2^63 or more to write".
abbrev pub size_of : List ℕ → Answer ℕ
size_of ns = if too_large ns then refused 22 else done (length (bytes_of ns))
