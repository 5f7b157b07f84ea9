-- Small cases of the words of a node, by computing: what is taken, and what each condition refuses. The table has three nodes.
use mathlib.Core.Path.{◌≡◌, refl}
use mathlib.Core.List.{List, ◌∷◌}
use Prim.Native.Nat.{ℕ, ◌^◌, ◌-◌}
use lib.ListN.{drop, set}
use Rattle.states.specs.Node.{sent_in, node_in, known_own, known_sent, none_sent, known_round, known_before, known_node, node_at}
use Rattle.states.proofs.Vectors.{three, words, number, opened}

-- Node 2 has finished 3 jobs, the last at 110, and runs the fourth; its latest time is 120, and for the round at 120 it sent 3, 110, 1. L is 4.
node : List ℕ
node = 2 ∷ 3 ∷ 110 ∷ 1 ∷ 120 ∷ 1 ∷ 120 ∷ 3 ∷ 110 ∷ 1 ∷ words

-- The same with no round open.
shut : List ℕ
shut = 2 ∷ 3 ∷ 110 ∷ 1 ∷ 120 ∷ 0 ∷ 0 ∷ 0 ∷ 0 ∷ 0 ∷ words

-- the refusal, with the word at a place changed
refusal_at : List ℕ → ℕ → ℕ → ℕ
refusal_at ws place word = number (node_at three (set ws place word))

unfoldable node_opened : Unit {0}
unfolding opened node_at known_node known_before known_own known_round known_sent none_sent sent_in node_in node shut refusal_at
node_opened = tt

taken : (refusal_at node 0 2 ≡ 0) × (refusal_at shut 0 2 ≡ 0)
unfolding node_opened
taken = (refl, refl)

number_of_m : refusal_at node 0 3 ≡ 102
unfolding node_opened
number_of_m = refl

-- the fifth job does not exist; nor may the sum wrap
runs_past_last : (refusal_at node 1 4 ≡ 102) × (refusal_at node 1 (2 ^ 64 - 1) ≡ 102)
unfolding node_opened
runs_past_last = (refl, refl)

times_too_late : (refusal_at node 2 (2 ^ 48) ≡ 102) × (refusal_at node 4 (2 ^ 49) ≡ 102) × (refusal_at node 4 (2 ^ 49 - 1) ≡ 0)
unfolding node_opened
times_too_late = (refl, refl, refl)

no_mark : (refusal_at node 3 2 ≡ 102) × (refusal_at node 5 2 ≡ 102)
unfolding node_opened
no_mark = (refl, refl)

other_sent : (refusal_at node 6 (2 ^ 48) ≡ 102) × (refusal_at node 7 5 ≡ 102) × (refusal_at node 8 (2 ^ 48) ≡ 102) × (refusal_at node 9 2 ≡ 102)
unfolding node_opened
other_sent = (refl, refl, refl, refl)

-- with no round open the four hold zeros
sent_for_none : (refusal_at node 5 0 ≡ 102) × (refusal_at shut 6 1 ≡ 102) × (refusal_at shut 7 1 ≡ 102) × (refusal_at shut 8 1 ≡ 102) × (refusal_at shut 9 1 ≡ 102)
unfolding node_opened
sent_for_none = (refl, refl, refl, refl, refl)

-- a common record that is none
other_common : (refusal_at node 10 4 ≡ 102) × (refusal_at node 335 1 ≡ 102)
unfolding node_opened
other_common = (refl, refl)

wrong_length : (number (node_at three (drop 1 node)) ≡ 100) × (number (node_at three (0 ∷ node)) ≡ 100)
unfolding node_opened
wrong_length = (refl, refl)
