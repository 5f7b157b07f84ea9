-- Insertion on the tasks alone, of which a job is one: that it is the rules' insertion is proved in proofs/Order.antt.
use Rattle.std.specs.Prelude.{◌≡◌, not, ℕ, ◌+◌, ◌≤◌, ◌<◌, take, drop, get_or}
use mathlib.Core.List.{List, ◌∷◌, ◌++◌, foldl}
use Rattle.laws.specs.Tests.{◌<?◌}
use Rattle.laws.specs.Search.{up_to_last}
use Rattle.laws.specs.Lists.{pad}
use Rattle.rules.specs.Judge.{Release}
use Rattle.round.specs.declared.Round.{Round}
use Rattle.round.specs.Round.{no_release}

-- "behind the last job there of the same or higher priority, ahead of the rest": past the first n.
unfoldable pub place_in : ℕ → ℕ → List ℕ → ℕ
place_in i n l = n + up_to_last (λ j. not (i <? j)) (drop n l)

unfoldable pub put_in : ℕ → ℕ → List ℕ → List ℕ
put_in i n l = take (place_in i n l) l ++ (i ∷ drop (place_in i n l) l)

unfoldable pub put_all : ℕ → List ℕ → List Release → List ℕ
put_all n l xs = foldl (λ l x. put_in x.task_of n l) l xs

-- The first n places are in use, and the others hold 0.
pub record Packed (tasks : List ℕ) (n : ℕ) : Type 0 where
  pub few : n ≤ 256
  pub exact : tasks ≡ pad 256 0 (take n tasks)

-- Room for every release past the first `past` of n, and known tasks.
pub record Room (n past : ℕ) (q : Round) : Type 0 where
  pub from : past ≤ n
  pub listed : q.listed ≤ 64
  pub all : n + q.listed ≤ 256
  pub known : (i : ℕ) → i < q.listed → (get_or q.releases i no_release).task < 64
