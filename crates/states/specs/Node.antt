-- The words of a node, and which words are those of one.
use Rattle.std.specs.Prelude.{Option, Some, None, Bool, false, not, List, [], ◌∷◌, ◌++◌, ℕ, ◌+◌, ◌^◌, length, drop, get_or, if◌then◌else◌}
use Rattle.laws.specs.Tests.{◌<?◌, ◌≤?◌, ◌=?◌, all_of, found}
use Rattle.rules.specs.Answer.{Answer, done, refuse◌if◌else◌}
use Rattle.table.specs.declared.Table.{Table}
use Rattle.node.specs.declared.Sent.{Sent}
use Rattle.node.specs.declared.Node.{Node}
use Rattle.node.specs.Node.{round_of}
use Rattle.states.specs.Common.{mark, common_words, common_in, known_common}

-- What was sent for the round that is open: zeros where none is.
abbrev pub sent_of : Option Sent → Sent
sent_of None = record { time = 0; report = record { progress = 0; completed = 0; run = 0 } }
sent_of (Some s) = s

-- "possibly an open round": a mark, its time, and what was sent.
abbrev pub round_words : Option Sent → List ℕ
round_words o =
    let s = sent_of o in
    mark (found (round_of o)) ∷ s.time ∷ s.report.progress ∷ s.report.completed ∷ s.report.run ∷ []

-- "A node has progress (finished jobs), completion time of the last, a running mark, its latest time, and possibly an open round": behind its number,
-- and before a common record of its own.
unfoldable pub node_words : Node → List ℕ
node_words n = n.number ∷ n.progress ∷ n.completed ∷ mark n.running ∷ n.latest ∷ (round_words n.round ++ common_words n.common)

-- The node at the same places.
unfoldable pub sent_in : List ℕ → Sent
sent_in ws = record { time = get_or ws 6 0; report = record { progress = get_or ws 7 0; completed = get_or ws 8 0; run = get_or ws 9 0 } }

abbrev pub round_in : ℕ → Sent → Option Sent
round_in opened s = if opened =? 1 then Some s else None

unfoldable pub node_in : List ℕ → Node
node_in ws = record {
  number = get_or ws 0 0;
  common = common_in (drop 10 ws);
  progress = get_or ws 1 0;
  completed = get_or ws 2 0;
  running = get_or ws 3 0 =? 1;
  latest = get_or ws 4 0;
  round = round_in (get_or ws 5 0) (sent_in ws);
}

-- A node has finished no job that does not exist, and the one that runs exists. 1: "node number ≥ m".
unfoldable pub known_own : ℕ → ℕ → ℕ → ℕ → ℕ → ℕ → ℕ → Bool
known_own nodes last number progress completed running latest =
    all_of ((progress + running ≤? last) ∷ (number <? nodes) ∷ (running ≤? 1) ∷ (completed <? 2 ^ 48) ∷ (latest <? 2 ^ 49) ∷ [])

unfoldable pub known_sent : ℕ → Sent → Bool
known_sent last s = all_of ((s.time <? 2 ^ 48) ∷ (s.report.progress ≤? last) ∷ (s.report.completed <? 2 ^ 48) ∷ (s.report.run ≤? 1) ∷ [])

unfoldable pub none_sent : Sent → Bool
none_sent s = all_of ((s.time =? 0) ∷ (s.report.progress =? 0) ∷ (s.report.completed =? 0) ∷ (s.report.run =? 0) ∷ [])

-- What was sent while a round is open, else zeros.
unfoldable pub known_round : ℕ → ℕ → Sent → Bool
known_round last opened s = if opened =? 0 then none_sent s else if opened =? 1 then known_sent last s else false

-- Both, of the words before the common record, whose last position is given.
unfoldable pub known_before : ℕ → ℕ → List ℕ → Bool
known_before nodes last ws =
    all_of (
    known_own nodes last (get_or ws 0 0) (get_or ws 1 0) (get_or ws 2 0) (get_or ws 3 0) (get_or ws 4 0)
    ∷ known_round last (get_or ws 5 0) (sent_in ws) ∷ [])

-- What holds of every node that this library gives back: `Given` as a test.
unfoldable pub known_node : Table → List ℕ → Bool
known_node t ws =
    let c = common_in (drop 10 ws) in
    all_of (known_common t (drop 10 ws) ∷ known_before t.nodes (c.base + c.count) ws ∷ [])

-- 100: "a lent array has another length than the call states"; 102: "the state is none that this library writes under this table".
unfoldable pub node_at : Table → List ℕ → Answer Node
node_at t ws = refuse 100 if not (length ws =? 336) else refuse 102 if not (known_node t ws) else done (node_in ws)
