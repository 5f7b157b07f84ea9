-- One step of each pass over the entries of a round, each with its class: the rules' own steps, read off the class and the numbers.
use Rattle.std.specs.Prelude.{Bool, ◌&&◌, ◌||◌, ℕ, max, min, length, get_or, if◌then◌else◌}
use mathlib.Core.List.{List, foldr}
use Rattle.laws.specs.Tests.{◌=?◌, maybe}
use Rattle.laws.specs.Search.{lowest}
use Rattle.passes.specs.declared.Classed.{Classed}
use Rattle.passes.specs.declared.Back.{Back}

abbrev pub no_class : Classed
no_class = record { class = 0; progress = 0; front = 0; start = 0 }

abbrev pub class_in : Classed → ℕ
class_in x = x.class

-- "classes 0 and 5"
abbrev pub in_front : ℕ → Bool
in_front k = (k =? 0) || (k =? 5)

-- "the largest of old O and progress + run over classes 0 and 5"
abbrev pub front_step : Classed → ℕ → ℕ
front_step x o = max x.front o

-- "among class 0 the least progress"
abbrev pub rear_step : Classed → ℕ → ℕ
rear_step x b = if x.class =? 0 then min x.progress b else b

abbrev pub is_rear : ℕ → Classed → Bool
is_rear b x = (x.class =? 0) && (x.progress =? b)

-- "Among equal progress the largest start counts."
abbrev pub start_step : ℕ → Classed → ℕ → ℕ
start_step b x s = if is_rear b x then max x.start s else s

-- "The nodes that reach it form a set"
abbrev pub is_back : ℕ → ℕ → Classed → Bool
is_back b s x = is_rear b x && (x.start =? s)

-- "the back-runner is the lowest-numbered node of that set", 15 if none; "New B is its progress, new W the larger of old W and its start";
-- "if there is none, B and W stay". B, W and L are those before the round.
unfoldable pub back_of : ℕ → ℕ → ℕ → List Classed → Back
back_of B W L l =
    let least = foldr rear_step L l in
    let latest = foldr (start_step least) 0 l in
    maybe (record { node = 15; base = B; start = W }) (λ i. record { node = i; base = least; start = max W latest })
    (lowest (λ i. is_back least latest (get_or l i no_class)) (length l))
