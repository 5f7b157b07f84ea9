-- Runs of the worked canal in which one rule decides whether A and B (numbers 0 and 1) agree: each says what is seen, and what would be if the rule were
-- another.
use mathlib.Core.Path.{◌≡◌, refl}
use mathlib.Core.Option.{none}
use mathlib.Core.List.{List, [], ◌∷◌, ◌++◌}
use Prim.Native.Nat.{ℕ}
use Rattle.rules.specs.Answer.{refused}
use Rattle.rules.specs.Judge.{Round, class}
use Rattle.rules.specs.Node.{Node, report}
use Rattle.rules.specs.Cabinet.{start_at, finish_at, report_at, close_with, asked, Step, stepped, run}
use Rattle.rules.specs.Agreement.{apply_whole, whole_after, order_after}
use Rattle.rules.specs.Canal.{canal, sends, released, nodes, round_at, round_0}
use Rattle.rules.specs.All.{all}
use Rattle.rules.proofs.Worked.{A, B, after, Seen}

-- a record that A and B report for and close
abbrev both_report : ℕ → List Step
both_report r = A (report_at r) ∷ B (report_at r) ∷ []

abbrev both_close : Round → List Step
both_close q = A (close_with q) ∷ B (close_with q) ∷ []

-- tasks 1 and 2 are released, A runs the first, and B has run it from 2 on
abbrev begun : ℕ → List Step
begun t = both_report 0 ++ both_close round_0 ++ (A (start_at 3) ∷ B (start_at 2) ∷ B (finish_at t) ∷ [])

-- "Dropping class 5 from the front": B has overrun, its report is of class 5, and it has started position 2. Were O 1, task 0 would go in ahead of it.
abbrev late_30 : Round
late_30 = round_at 30 (released 0 0 ∷ []) (nodes (sends 0 0 1) (sends 1 25 1) none)

pub late_counts : Seen (after (begun 25 ++ (B (start_at 26) ∷ []) ++ both_report 30 ++ both_close late_30) 1) (round_0 ∷ late_30 ∷ []) (1 ∷ 2 ∷ []) (1 ∷ 2 ∷ 0 ∷ [])
unfolding all asked stepped run apply_whole whole_after order_after
late_counts = record { closes = refl; starts = refl; orders = refl }

-- "Letting O fall when a former front-runner goes silent": the third claims position 2 at 12 and is silent at 14. B starts it while the round is open, up to
-- O and beyond its lock. Were O 1 after it, task 0 would go in ahead of it.
abbrev claim_12 : Round
claim_12 = round_at 12 [] (nodes (sends 0 0 1) (sends 1 8 0) (sends 2 12 0))

abbrev silent_14 : Round
silent_14 = round_at 14 (released 0 0 ∷ []) (nodes (sends 0 0 1) (sends 1 8 0) none)

pub offset_stays : Seen (after (begun 8 ++ both_report 12 ++ both_close claim_12 ++ both_report 14 ++ (B (start_at 15) ∷ []) ++ both_close silent_14) 1)
    (round_0 ∷ claim_12 ∷ silent_14 ∷ []) (1 ∷ 2 ∷ []) (1 ∷ 2 ∷ 0 ∷ [])
unfolding all asked stepped run apply_whole whole_after order_after
offset_stays = record { closes = refl; starts = refl; orders = refl }

-- The lock: B has reported 1 and 0, and may not start position 2 in the open round, though the bound would permit it at 13. Task 0 goes in ahead of it.
abbrev locked_12 : Round
locked_12 = round_at 12 (released 0 0 ∷ []) (nodes (sends 0 0 1) (sends 1 8 0) none)

pub lock_holds : Seen (after (begun 8 ++ both_report 12 ++ (B (start_at 13) ∷ []) ++ both_close locked_12) 1) (round_0 ∷ locked_12 ∷ []) (1 ∷ []) (1 ∷ 0 ∷ 2 ∷ [])
unfolding all asked stepped run apply_whole whole_after order_after
lock_holds = record { closes = refl; starts = refl; orders = refl }

-- The bound: B may not start position 2 at 11. Had it done so, its report at 11 would be of class 4, and task 0 would go in ahead of what it has started.
abbrev bound_11 : Round
bound_11 = round_at 11 (released 0 0 ∷ []) (nodes (sends 0 0 1) (sends 1 8 0) none)

pub bound_holds : Seen (after (begun 8 ++ (B (start_at 11) ∷ []) ++ both_report 11 ++ both_close bound_11) 1) (round_0 ∷ bound_11 ∷ []) (1 ∷ []) (1 ∷ 0 ∷ 2 ∷ [])
unfolding all asked stepped run apply_whole whole_after order_after
bound_holds = record { closes = refl; starts = refl; orders = refl }

-- The running job: B has started position 2 at 12 and says so. Were its run 0, task 0 would go in ahead of it.
abbrev running_12 : Round
running_12 = round_at 12 (released 0 0 ∷ []) (nodes (sends 0 0 1) (sends 1 8 1) none)

pub running_told : Seen (after (begun 8 ++ (B (start_at 12) ∷ []) ++ both_report 12 ++ both_close running_12) 1) (round_0 ∷ running_12 ∷ []) (1 ∷ 2 ∷ []) (1 ∷ 2 ∷ 0 ∷ [])
unfolding all asked stepped run apply_whole whole_after order_after
running_told = record { closes = refl; starts = refl; orders = refl }

-- Refusal 13: the same, with a record that has another entry in B's place. B does not close it: its own order would be 1, 0, 2, and stay so once it is
-- left behind.
pub entry_compared : Seen (after (begun 8 ++ (B (start_at 12) ∷ []) ++ both_report 12 ++ both_close locked_12) 1) (round_0 ∷ []) (1 ∷ 2 ∷ []) (1 ∷ 2 ∷ [])
unfolding all asked stepped run apply_whole whole_after order_after
entry_compared = record { closes = refl; starts = refl; orders = refl }

-- Refusal 4: B has started position 2 at 12, where the bound holds. A report at 11 would be judged by the bound at 11, and be of class 4.
abbrev started_at_12 : Node
started_at_12 = (after (begun 8 ++ (B (start_at 12) ∷ [])) 1).node

pub clock_kept : (report canal started_at_12 11 ≡ refused 4) × (class canal started_at_12.common 11 (sends 1 8 1) ≡ 4)
    × (class canal started_at_12.common 12 (sends 1 8 1) ≡ 0)
unfolding all asked stepped run
clock_kept = (refl, refl, refl)

-- The latest time after a close: a second report for the same r would not stand in the record that has that r.
pub round_over : report canal (after (both_report 0 ++ both_close round_0) 0).node 0 ≡ refused 4
unfolding all asked stepped run
round_over = refl
