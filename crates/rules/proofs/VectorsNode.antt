-- Cases by computation for what P1 to P12 leave open in what a node does: each section pins the sentences of document 01 that stand above it.
use mathlib.Core.Path.{◌≡◌, refl}
use mathlib.Core.Bool.{Bool, true, false}
use mathlib.Core.Option.{Option, none, some}
use mathlib.Core.List.{List, [], ◌∷◌}
use Prim.Native.Nat.{ℕ, ◌-◌, ◌^◌}
use Rattle.rules.specs.All.{all}
use Rattle.rules.specs.Answer.{Answer, done, refused, refused_by, ◌>>=◌}
use Rattle.rules.specs.Table.{Table}
use Rattle.rules.specs.Common.{Common, fresh}
use Rattle.rules.specs.Judge.{Report, Round}
use Rattle.rules.specs.Close.{close}
use Rattle.rules.specs.Node.{Open, Node, fresh_node, start, finish, report, report_of, node_close}
use Rattle.rules.specs.Canal.{canal, sends, released, nodes, round_at, round_0, round_10, round_12, ◌shows◌}
use Rattle.rules.proofs.Vectors.{has, table, common, common_0}

-- One call after another; the first refusal stays.
infixl 15 ◌starts◌ ◌finishes◌ ◌reports◌ ◌closes◌
abbrev ◌starts◌ : Answer Node → ℕ → Answer Node
a starts t = a >>= λ n. start canal n t >>= λ s. done s.node

abbrev ◌finishes◌ : Answer Node → ℕ → Answer Node
a finishes t = a >>= λ n. finish n t

abbrev ◌reports◌ : Answer Node → ℕ → Answer Node
a reports r = a >>= λ n. report canal n r >>= λ s. done s.node

abbrev ◌closes◌ : Answer Node → Round → Answer Node
a closes q = a >>= λ n. node_close canal n q >>= λ k. done k.node

-- What is seen of a node: progress, completion time, running mark, latest time, and (r, run) of the open round.
abbrev Seen : Type 0
Seen = ℕ × ℕ × Bool × ℕ × Option (ℕ × ℕ)

abbrev opened : Option Open → Option (ℕ × ℕ)
opened none = none
opened (some o) = some (o.r, o.sent.run)

abbrev seen : Answer Node → Answer Seen
seen a = a >>= λ n. done (n.progress, n.completed, n.running, n.latest, opened n.round)

-- Node i that has closed round 0: positions 1 and 2 hold tasks 1 and 2, O is 0, projection(1) is 22, projection(2) is 52.
abbrev after_round_0 : ℕ → Answer Node
after_round_0 i = fresh_node canal i reports 0 closes round_0

-- "A fresh one has zeros, no mark and no round. Each accepted start, finish or report makes its own time (r for a report) the latest; a start raises the
-- mark, a report opens the round." "Finish: progress grows by one, the completion time is now, the mark falls." "Close lifts the lock and sets the latest
-- time to the larger of itself and r + timeout."
steps :
    (seen (fresh_node canal 2) ≡ done (0, 0, false, 0, none))
    × (seen (fresh_node canal 2 reports 0) ≡ done (0, 0, false, 0, some (0, 0)))
    × (seen (after_round_0 2) ≡ done (0, 0, false, 2, none))
    × (seen (after_round_0 2 starts 3) ≡ done (0, 0, true, 3, none))
    × (seen (after_round_0 2 starts 3 finishes 8) ≡ done (1, 8, false, 8, none))
    × (seen (after_round_0 2 starts 3 finishes 8 reports 10) ≡ done (1, 8, false, 10, some (10, 0)))
    × (seen (after_round_0 2 starts 3 reports 10) ≡ done (0, 0, true, 10, some (10, 1)))
    × (seen (after_round_0 2 starts 3 reports 10 finishes 11 closes round_at 10 [] (nodes none none (sends 0 0 1))) ≡ done (1, 11, false, 12, none))
    × (seen (after_round_0 2 starts 3 reports 10 finishes 15 closes round_at 10 [] (nodes none none (sends 0 0 1))) ≡ done (1, 15, false, 15, none))
    × (seen (after_round_0 2 reports 10 starts 15 closes round_at 10 [] (nodes none none (sends 0 0 1))) ≡ done (0, 0, true, 15, none))
unfolding all
steps = (refl, refl, refl, refl, refl, refl, refl, refl, refl, refl)

-- "A finish changes the node's own record and nothing beside it": nor does a start or a report; a close applies the record.
abbrev held : Answer Node → Answer (ℕ × Common)
held a = a >>= λ n. done (n.number, n.common)

nothing_beside :
    (held (fresh_node canal 2 reports 0) ≡ done (2, fresh))
    × (held (after_round_0 2) ≡ done (2, common_0))
    × (held (after_round_0 2 starts 3 finishes 8 reports 10) ≡ done (2, common_0))
    × (held (after_round_0 2 starts 2 finishes 8 starts 12 finishes 12) ≡ done (2, common_0))
unfolding all
nothing_beside = (refl, refl, refl, refl)

-- "Report at the round time r gives (progress, completion time, run)"; the reply to a close is the one that a station gets.
replies :
    ((after_round_0 0 starts 2 finishes 8 >>= λ n. report canal n 10 >>= λ s. done (some s.sent)) ≡ done (sends 1 8 0))
    × ((after_round_0 0 starts 2 finishes 8 reports 10 >>= λ n. node_close canal n round_10 >>= λ k. done k.reply)
    ≡ (close canal common_0 round_10 shows λ k. k.reply))
unfolding all
replies = (refl, refl)

-- 4 "time before the node's latest": one before it, and at it, after each call.
clock :
    (after_round_0 0 starts 1 ≡ refused 4)
    × (seen (after_round_0 0 starts 2) ≡ done (0, 0, true, 2, none))
    × (after_round_0 0 starts 5 finishes 4 ≡ refused 4)
    × (seen (after_round_0 0 starts 5 finishes 5) ≡ done (1, 5, false, 5, none))
    × (after_round_0 0 starts 5 finishes 13 starts 12 ≡ refused 4)
    × (seen (after_round_0 0 starts 5 finishes 13 starts 13) ≡ done (1, 13, true, 13, none))
    × (after_round_0 0 starts 5 reports 10 finishes 9 ≡ refused 4)
    × (seen (after_round_0 0 starts 5 reports 10 finishes 10) ≡ done (1, 10, false, 10, some (10, 1)))
    × (after_round_0 0 reports 1 ≡ refused 4)
unfolding all
clock = (refl, refl, refl, refl, refl, refl, refl, refl, refl)

-- 3 "now above 2^48 − 1"; and before 4: the clock can stand past that time.
end_of_time :
    (seen (fresh_node canal 0 reports (2 ^ 48 - 1)) ≡ done (0, 0, false, 2 ^ 48 - 1, some (2 ^ 48 - 1, 0)))
    × (fresh_node canal 0 reports (2 ^ 48) ≡ refused 3)
    × (fresh_node canal 0 starts (2 ^ 48) ≡ refused 3)
    × (fresh_node canal 0 finishes (2 ^ 48) ≡ refused 3)
    × (fresh_node canal 0 reports (2 ^ 48 - 1) closes round_at (2 ^ 48 - 1) [] (nodes (sends 0 0 0) none none) starts (2 ^ 48) ≡ refused 3)
    × (fresh_node canal 0 reports (2 ^ 48 - 1) closes round_at (2 ^ 48 - 1) [] (nodes (sends 0 0 0) none none) starts (2 ^ 48 - 1) ≡ refused 4)
unfolding all
end_of_time = (refl, refl, refl, refl, refl, refl)

-- 6 "start while a job runs", 7 "progress = L", 10 "finish with nothing running", 11 "report while a round is open"; 4 before 6, 7, 10 and 11;
-- 7 before 8: where a round is open and no job is left.
plain_refusals :
    (after_round_0 0 starts 2 starts 2 ≡ refused 6)
    × (after_round_0 0 starts 2 starts 1 ≡ refused 4)
    × (fresh_node canal 0 starts 0 ≡ refused 7)
    × (fresh_node canal 0 reports 1 starts 0 ≡ refused 4)
    × (fresh_node canal 0 reports 1 starts 1 ≡ refused 7)
    × (after_round_0 0 finishes 2 ≡ refused 10)
    × (after_round_0 0 finishes 1 ≡ refused 4)
    × (after_round_0 0 reports 2 reports 2 ≡ refused 11)
    × (after_round_0 0 reports 2 reports 1 ≡ refused 4)
unfolding all
plain_refusals = (refl, refl, refl, refl, refl, refl, refl, refl, refl)

-- "Permitted if the position is ≤ O, or ≤ the lock while a round is open, or, with no round open, if the bound holds now." At 10 the lock is 1: position 1
-- stands at it, position 2 past it, and there the bound permits nothing, though it holds at 12 (P3); 8 before 9, whose bound breaks at 11 (P2).
lock_edges :
    (seen (after_round_0 0 reports 10 starts 10) ≡ done (0, 0, true, 10, some (10, 1)))
    × (after_round_0 0 reports 10 starts 10 finishes 11 starts 11 ≡ refused 8)
    × (after_round_0 0 reports 10 starts 10 finishes 11 starts 12 ≡ refused 8)
    × (seen (after_round_0 0 starts 2 finishes 8 reports 10) ≡ done (1, 8, false, 10, some (10, 0)))
    × (after_round_0 0 starts 2 finishes 8 reports 10 starts 12 ≡ refused 8)
    × (after_round_0 0 starts 2 finishes 8 reports 10 closes round_10 reports 15 starts 15 ≡ refused 8)
    × (seen (after_round_0 0 starts 2 finishes 8 reports 21 starts 21) ≡ done (1, 8, true, 21, some (21, 1)))
    × (seen (after_round_0 0 starts 2 finishes 8 reports 10 closes round_at 10 [] (nodes (sends 1 8 0) none none) starts 30) ≡ done (1, 8, true, 30, none))
unfolding all
lock_edges = (refl, refl, refl, refl, refl, refl, refl, refl)

-- Node 1 after P5's round 12, which lifted O to 2: the order is 1, 2, 0.
abbrev after_round_12 : Answer Node
after_round_12 = after_round_0 1 starts 2 reports 12 closes round_12

-- A node that has done position 1, a job of task 0, over a common record whose position 2 holds a job of task 2: projection(1) is 100, projection(2) is 130.
abbrev idle_at : ℕ → List ℕ → Answer Node
idle_at O E =
    done (record { number = 0; common = common (0 ∷ 2 ∷ []) 0 90 O E none; progress = 1; completed = 50; running = false; latest = 50; round = none })

-- "≤ O": with a round open past the lock, 1, and with none where the bound is broken; 9 "with the lowest-numbered task that breaks it".
up_to_O :
    (seen (after_round_12 finishes 14 reports 20) ≡ done (1, 14, false, 20, some (20, 0)))
    × (seen (after_round_12 finishes 14 reports 20 starts 20) ≡ done (1, 14, true, 20, some (20, 0)))
    × (seen (idle_at 2 [] starts 50) ≡ done (1, 50, true, 50, none))
    × (idle_at 1 [] starts 50 ≡ refused_by 9 0)
    × (idle_at 1 [] starts 89 ≡ refused_by 9 0)
    × (seen (idle_at 1 [] starts 90) ≡ done (1, 50, true, 90, none))
    × (idle_at 1 (90 ∷ 79 ∷ []) starts 50 ≡ refused_by 9 1)
    × (seen (idle_at 1 (90 ∷ 80 ∷ []) starts 50) ≡ done (1, 50, true, 50, none))
unfolding all
up_to_O = (refl, refl, refl, refl, refl, refl, refl, refl)

-- Run "is also 1 if position progress + 1 exists, is ≤ O or within the bound at r, and projection(progress) < r + timeout. Otherwise it is 0." Up to O and with
-- projection(1) 22 it turns at 21; past O it turns with the bound, at 22 with a slack of 30, which at 99 forbids position 2 past O and not up to it; and it
-- is 1 where a job runs, whatever the projection.
abbrev run_at : Table → Answer Node → ℕ → Answer ℕ
run_at tab a r = a >>= λ n. done (report_of tab n r).run

abbrev tight : Table
tight = table 3 2 (has 10 100 100 30 ∷ has 20 200 200 30 ∷ has 30 400 400 0 ∷ [])

run_rule :
    (run_at canal (after_round_12 finishes 14) 20 ≡ done 0)
    × (run_at canal (after_round_12 finishes 14) 21 ≡ done 1)
    × (run_at canal (after_round_12 finishes 14 starts 15) 16 ≡ done 1)
    × (run_at tight (after_round_0 0 starts 2 finishes 8) 21 ≡ done 0)
    × (run_at tight (after_round_0 0 starts 2 finishes 8) 22 ≡ done 1)
    × (run_at tight (idle_at 1 []) 99 ≡ done 0)
    × (run_at tight (idle_at 2 []) 99 ≡ done 1)
    × (run_at canal (fresh_node canal 0) 100 ≡ done 0)
unfolding all
run_rule = (refl, refl, refl, refl, refl, refl, refl, refl)

-- 12 "close with no round open, or another r"; 13 "own entry absent or not as sent"; "close 5, 12, 13, then 3, 14, 15": node 2 sent (1, 8, 0) at 10.
abbrev sent_at_10 : Answer Node
sent_at_10 = after_round_0 2 starts 2 finishes 8 reports 10

abbrev with_entry : Option Report → Round
with_entry x = round_at 10 [] (nodes none none x)

own_entry :
    (after_round_0 2 starts 2 finishes 8 closes with_entry (sends 1 8 0) ≡ refused 12)
    × (sent_at_10 closes round_at 11 [] [] ≡ refused 12)
    × (sent_at_10 closes round_at (2 ^ 48) [] (nodes none none (sends 1 8 0)) ≡ refused 12)
    × (sent_at_10 closes round_at 10 [] (none ∷ none ∷ []) ≡ refused 13)
    × (sent_at_10 closes with_entry none ≡ refused 13)
    × (sent_at_10 closes with_entry (sends 2 8 0) ≡ refused 13)
    × (sent_at_10 closes with_entry (sends 1 9 0) ≡ refused 13)
    × (sent_at_10 closes with_entry (sends 1 8 1) ≡ refused 13)
    × (sent_at_10 closes round_at 10 [] (none ∷ none ∷ sends 1 8 0 ∷ none ∷ []) ≡ refused 15)
    × (seen (sent_at_10 closes with_entry (sends 1 8 0)) ≡ done (1, 8, false, 12, none))
unfolding all
own_entry = (refl, refl, refl, refl, refl, refl, refl, refl, refl, refl)

-- "An open round whose record was refused stays open; another record with the same r may follow, with fewer releases or none." A refusal has no node in it:
-- the caller's is the one from before.
another_record :
    (sent_at_10 closes round_at 10 (released 0 0 ∷ released 1 0 ∷ []) (nodes none none (sends 1 8 0)) ≡ refused 16)
    × (seen (sent_at_10 closes round_at 10 (released 0 0 ∷ []) (nodes none none (sends 1 8 0))) ≡ done (1, 8, false, 12, none))
unfolding all
another_record = (refl, refl)

-- "If then progress < B, the node is left behind for good." Node 0 ended position 1 late, at 60, and reports (1, 60, 1) at 120 while it runs position 2, or
-- (1, 60, 1) with nothing running; node 1 has finished both jobs. The close that tells it is accepted, and every call after that is 5: before 6, 10 and 12, after 4.
abbrev overtaken : Round
overtaken = round_at 120 [] (nodes (sends 1 60 1) (sends 2 52 0) none)

abbrev left : Answer Node
left = after_round_0 0 starts 2 finishes 60 starts 60 reports 120 closes overtaken

left_behind_for_good :
    (seen left ≡ done (1, 60, true, 122, none))
    × (left starts 122 ≡ refused 5) × (left finishes 122 ≡ refused 5) × (left reports 122 ≡ refused 5) × (left closes overtaken ≡ refused 5)
    × (left starts 121 ≡ refused 4) × (left starts (2 ^ 48) ≡ refused 3)
    × (after_round_0 0 starts 2 finishes 60 reports 120 closes overtaken finishes 122 ≡ refused 5)
    × (after_round_0 0 starts 2 finishes 60 starts 60 finishes 70 reports 120 closes round_at 120 [] (nodes (sends 2 70 0) (sends 2 52 0) none) starts 122 ≡ refused 7)
unfolding all
left_behind_for_good = (refl, refl, refl, refl, refl, refl, refl, refl, refl)
