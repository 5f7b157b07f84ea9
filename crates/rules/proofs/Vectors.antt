-- Cases by computation for what P1 to P12 leave open in the table, the common record, the judging and the closing: each section pins the sentences of
-- document 01 that stand above it.
use mathlib.Core.Path.{◌≡◌, refl}
use mathlib.Core.Bool.{Bool, true, false}
use mathlib.Core.Option.{Option, none, some}
use mathlib.Core.List.{List, [], ◌∷◌, ◌++◌, map}
use Prim.Native.Nat.{ℕ, ◌-◌, ◌^◌}
use lib.ListN.{length, replicate}
use Rattle.laws.specs.Lists.{pad}
use Rattle.rules.specs.All.{all}
use Rattle.rules.specs.Answer.{Answer, done, refused, refused_by, ◌>>=◌}
use Rattle.rules.specs.Table.{Task, Table, check}
use Rattle.rules.specs.Common.{Job, Common, fresh, breaker}
use Rattle.rules.specs.Judge.{Report, Release, malformed, class, majority}
use Rattle.rules.specs.Insert.{place, insert}
use Rattle.rules.specs.Close.{Closed, close}
use Rattle.rules.specs.Node.{fresh_node}
use Rattle.rules.specs.Canal.{canal, sends, released, nodes, round_at, round_10, silent, same_but_last, after_0, next, ◌shows◌, order}

-- THE TASK TABLE

abbrev pub has : ℕ → ℕ → ℕ → ℕ → Task
has C T D S = record { C = C; T = T; D = D; S = S }

abbrev pub table : ℕ → ℕ → List Task → Table
table m timeout tasks = record { m = m; timeout = timeout; tasks = tasks }

-- What the check of a table answers: the number of its tasks, or a refusal.
abbrev checked : Table → Answer ℕ
checked t = check t >>= λ u. done (length u.tasks)

-- Two tasks, the lower one with a C of 30.
abbrev above_30 : Task → Answer ℕ
above_30 k = checked (table 3 2 (k ∷ has 30 400 400 0 ∷ []))

-- "each at most 4,294,967,295"; the other three limits follow from that of T, as S + C ≤ D ≤ T.
limits :
    (checked (table 3 2 (has 4294967295 4294967295 4294967295 0 ∷ [])) ≡ done 1)
    × (checked (table 3 2 (has 2 4294967295 4294967295 4294967293 ∷ [])) ≡ done 1)
    × (above_30 (has 10 4294967296 100 40) ≡ refused_by 2 0)
unfolding all
limits = (refl, refl, refl)

-- "1 ≤ C ≤ D ≤ T; S + C ≤ D"
order_of_times :
    (above_30 (has 0 100 100 40) ≡ refused_by 2 0)
    × (above_30 (has 110 120 100 30) ≡ refused_by 2 0)
    × (above_30 (has 10 99 100 40) ≡ refused_by 2 0)
    × (above_30 (has 10 100 100 40) ≡ done 2)
    × (above_30 (has 10 100 49 40) ≡ refused_by 2 0)
    × (above_30 (has 10 100 50 40) ≡ done 2)
unfolding all
order_of_times = (refl, refl, refl, refl, refl, refl)

-- "S at least the largest C of any lower-priority task": neither a task's own C, nor that of a higher one.
slack :
    (above_30 (has 10 100 100 29) ≡ refused_by 2 0)
    × (above_30 (has 10 100 100 30) ≡ done 2)
    × (above_30 (has 50 100 100 30) ≡ done 2)
    × (checked (table 3 2 (has 10 100 100 30 ∷ has 20 200 200 29 ∷ has 30 400 400 0 ∷ [])) ≡ refused_by 2 1)
    × (checked (table 3 2 (has 10 100 100 30 ∷ has 30 200 200 20 ∷ has 20 400 400 0 ∷ [])) ≡ done 3)
    × (checked (table 3 2 (has 10 100 100 29 ∷ has 30 200 200 20 ∷ has 20 400 400 0 ∷ [])) ≡ refused_by 2 0)
unfolding all
slack = (refl, refl, refl, refl, refl, refl)

-- "1 ≤ timeout ≤ smallest C"; "a timeout that is too long names the first task with C < timeout"
timeout_fits :
    (checked (table 3 10 (has 30 100 100 30 ∷ has 10 400 400 20 ∷ has 20 400 400 0 ∷ [])) ≡ done 3)
    × (checked (table 3 11 (has 30 100 100 30 ∷ has 10 400 400 20 ∷ has 20 400 400 0 ∷ [])) ≡ refused_by 2 1)
    × (checked (table 3 (2 ^ 64) (has 30 100 100 30 ∷ has 10 400 400 20 ∷ [])) ≡ refused_by 2 0)
unfolding all
timeout_fits = (refl, refl, refl)

-- "with the first such task": whichever of the rules it breaks.
first_task :
    (checked (table 3 2 (has 10 100 100 29 ∷ has 30 99 100 0 ∷ [])) ≡ refused_by 2 0)
    × (checked (table 3 2 (has 10 100 100 30 ∷ has 30 99 100 0 ∷ [])) ≡ refused_by 2 1)
    × (checked (table 3 31 (has 40 99 100 30 ∷ has 30 400 400 0 ∷ [])) ≡ refused_by 2 0)
unfolding all
first_task = (refl, refl, refl)

-- 1 "node or task count out of range, timeout 0, node number ≥ m"; "Order: table 1, 2"
abbrev broken : Task
broken = has 0 1 2 3

counts_in_range :
    (checked (table 0 1 (broken ∷ [])) ≡ refused 1)
    × (checked (table 16 1 (broken ∷ [])) ≡ refused 1)
    × (checked (table 3 0 (broken ∷ [])) ≡ refused 1)
    × (checked (table 3 1 []) ≡ refused 1)
    × (checked (table 3 1 (replicate 65 broken)) ≡ refused 1)
    × (checked (table 3 1 (replicate 64 broken)) ≡ refused_by 2 0)
    × (checked (table 15 1 (replicate 64 (has 1 2 2 1))) ≡ done 64)
    × (checked (table 1 1 (has 1 1 1 0 ∷ [])) ≡ done 1)
    × (fresh_node canal 3 ≡ refused 1)
unfolding all
counts_in_range = (refl, refl, refl, refl, refl, refl, refl, refl, refl)

-- THE COMMON RECORD

abbrev pub jobs : List ℕ → List Job
jobs = map (λ i. record { task_of = i })

abbrev pub common : List ℕ → ℕ → ℕ → ℕ → List ℕ → Option ℕ → Common
common tasks B W O E last = record { kept = jobs tasks; B = B; W = W; O = O; E = pad 64 0 E; last = last }

-- "At the start all are 0 and no round has been"; "E(task) becomes release time + T", delay and all; "Jobs at positions up to B are dropped".
abbrev pub common_0 : Common
common_0 = common (1 ∷ 2 ∷ []) 0 2 0 (0 ∷ 200 ∷ 401 ∷ []) (some 0)

abbrev common_10 : Common
common_10 = common (1 ∷ 0 ∷ 2 ∷ []) 0 2 1 (110 ∷ 200 ∷ 401 ∷ []) (some 10)

abbrev common_50 : Common
common_50 = common (2 ∷ []) 2 30 2 (110 ∷ 200 ∷ 401 ∷ []) (some 50)

whole_records :
    (fresh ≡ common [] 0 0 0 [] none)
    × ((after_0 shows λ k. k.common) ≡ done common_0)
    × ((next after_0 round_10 shows λ k. k.common) ≡ done common_10)
    × ((close canal common_10 (round_at 50 [] (nodes (sends 2 30 0) none none)) shows λ k. k.common) ≡ done common_50)
unfolding all
whole_records = (refl, refl, refl, refl)

-- "for every task i of higher priority than the job there": not its own task, not a lower one; 9 "the lowest-numbered task that breaks it".
higher_tasks :
    (breaker canal (common (2 ∷ []) 0 30 0 [] none) 1 0 ≡ some 0)
    × (breaker canal (common (2 ∷ []) 0 30 0 (20 ∷ []) none) 1 0 ≡ some 1)
    × (breaker canal (common (2 ∷ []) 0 30 0 (20 ∷ 10 ∷ []) none) 1 0 ≡ none)
    × (breaker canal (common (1 ∷ []) 0 1000 0 (980 ∷ []) none) 1 0 ≡ none)
    × (breaker canal (common (0 ∷ []) 0 1000 0 [] none) 1 0 ≡ none)
unfolding all
higher_tasks = (refl, refl, refl, refl, refl)

-- "Earliest release at t: the larger of E(i) and t."
earliest_release :
    (breaker canal (common (2 ∷ []) 0 30 0 (19 ∷ 500 ∷ []) none) 1 20 ≡ none)
    × (breaker canal (common (2 ∷ []) 0 30 0 (20 ∷ 500 ∷ []) none) 1 19 ≡ none)
    × (breaker canal (common (2 ∷ []) 0 30 0 (19 ∷ 500 ∷ []) none) 1 19 ≡ some 0)
unfolding all
earliest_release = (refl, refl, refl)

-- "Every such task counts, queued or not": the job of task 0 stands at position 1, its next release is due at 100.
queued_too :
    (breaker canal (common (0 ∷ 2 ∷ 2 ∷ 2 ∷ 2 ∷ 2 ∷ []) 0 2 0 (100 ∷ 500 ∷ []) none) 5 10 ≡ none)
    × (breaker canal (common (0 ∷ 2 ∷ 2 ∷ 2 ∷ 2 ∷ 2 ∷ []) 0 2 0 (100 ∷ 500 ∷ []) none) 6 10 ≡ some 0)
unfolding all
queued_too = (refl, refl)

-- HOW A ROUND IS JUDGED

-- 2 "run above 1, progress + run > L (as whole numbers), or completion time > r"
malformed_edges :
    (map (class canal common_10 40) (sends 2 32 2 ∷ sends 3 0 0 ∷ sends 2 0 1 ∷ sends 3 0 1 ∷ sends 4 0 0 ∷ []) ≡ 2 ∷ 0 ∷ 0 ∷ 2 ∷ 2 ∷ [])
    × (map (class canal common_10 40) (sends 3 40 0 ∷ sends 3 41 0 ∷ []) ≡ 0 ∷ 2 ∷ [])
    × (malformed canal common_10 40 (record { progress = 2 ^ 64 - 1; completed = 0; run = 1 }) ≡ true)
    × (malformed canal common_10 40 (record { progress = 1; completed = 0; run = 2 ^ 64 - 1 }) ≡ true)
unfolding all
malformed_edges = (refl, refl, refl, refl)

-- 3 "progress < B"; "Each entry gets the first class that fits": 2 before 3, 4 and 5; 3 before 5.
first_class :
    (map (class canal common_50 100) (none ∷ sends 1 8 0 ∷ sends 1 8 1 ∷ sends 2 30 0 ∷ []) ≡ 1 ∷ 3 ∷ 3 ∷ 0 ∷ [])
    × (map (class canal common_50 100) (sends 1 8 2 ∷ sends 1 101 0 ∷ []) ≡ 2 ∷ 2 ∷ [])
    × (map (class canal common_50 100) (sends 1 99 0 ∷ sends 2 99 0 ∷ sends 2 101 0 ∷ []) ≡ 3 ∷ 5 ∷ 2 ∷ [])
    × (map (class canal common_0 10) (sends 2 10 0 ∷ sends 2 11 0 ∷ []) ≡ 4 ∷ 2 ∷ [])
unfolding all
first_class = (refl, refl, refl, refl)

-- 4 "some position from O + 1 to progress + run breaks the bound at r": not only the last of them, not those up to O, none past it.
over_bound_edges :
    (map (class canal common_0 10) (sends 1 8 0 ∷ sends 1 8 1 ∷ []) ≡ 0 ∷ 4 ∷ [])
    × (map (class canal common_0 12) (sends 1 8 1 ∷ sends 2 12 0 ∷ []) ≡ 0 ∷ 0 ∷ [])
    × (class canal (common (2 ∷ 0 ∷ []) 0 21 0 [] none) 10 (sends 2 10 0) ≡ 4)
    × (class canal (common (2 ∷ 0 ∷ []) 0 21 1 [] none) 10 (sends 2 10 0) ≡ 0)
    × (class canal (common (1 ∷ 0 ∷ 2 ∷ []) 0 2 1 [] none) 10 (sends 2 10 0) ≡ 0)
unfolding all
over_bound_edges = (refl, refl, refl, refl, refl)

-- 5 "completion time > projection(progress), or progress < O and projection(progress + 1) < r": after round 10 projection(0) is 2, (1) is 22, (2) is 32.
late_edges :
    (map (class canal common_10 40) (sends 0 2 0 ∷ sends 1 22 0 ∷ sends 1 23 0 ∷ sends 2 32 0 ∷ sends 2 33 0 ∷ []) ≡ 5 ∷ 0 ∷ 5 ∷ 0 ∷ 5 ∷ [])
    × (map (λ r. class canal common_10 r (sends 0 0 0)) (21 ∷ 22 ∷ 23 ∷ []) ≡ 0 ∷ 0 ∷ 5 ∷ [])
    × (class canal common_10 22 (sends 0 3 0) ≡ 5)
    × (class canal common_10 400 (sends 1 22 0) ≡ 0)
unfolding all
late_edges = (refl, refl, refl, refl)

-- What an accepted record gives: O, B, W, the classes of the three nodes, the back-runner and the notice.
abbrev gives : Common → ℕ → List (Option Report) → Answer (ℕ × ℕ × ℕ × List ℕ × ℕ × Bool)
gives c r es =
    close canal c (round_at r [] es)
    shows λ k. (k.common.O, k.common.B, k.common.W, k.reply.classes, k.reply.back, k.reply.notice)

-- Three classes, and "places beyond m hold 0".
abbrev three : ℕ → ℕ → ℕ → List ℕ
three a b c = a ∷ b ∷ c ∷ 0 ∷ 0 ∷ 0 ∷ 0 ∷ 0 ∷ 0 ∷ 0 ∷ 0 ∷ 0 ∷ 0 ∷ 0 ∷ 0 ∷ []

-- "New O: the largest of old O and progress + run over classes 0 and 5." The late node 1 counts, with its run; nodes of classes 2 and 4 do not;
-- O does not fall when a former front-runner goes silent.
front :
    (gives common_10 120 (nodes (sends 1 8 0) (sends 2 63 1) none) ≡ done (3, 1, 8, three 0 5 1, 0, true))
    × (gives common_10 120 (nodes (sends 1 8 0) (sends 2 32 0) (sends 3 121 0)) ≡ done (2, 1, 8, three 0 0 2, 0, true))
    × (gives common_0 10 (nodes (sends 0 0 1) (sends 1 8 1) none) ≡ done (1, 0, 2, three 0 4 1, 0, false))
    × (gives (common (1 ∷ 0 ∷ 2 ∷ []) 0 2 3 [] none) 20 (nodes (sends 1 8 1) none none) ≡ done (3, 1, 8, three 0 1 1, 0, false))
unfolding all
front = (refl, refl, refl, refl)

-- "among class 0 the least progress; if there is none, B and W stay." A late node is no back-runner; 15 if none.
back_runner_chosen :
    (gives common_10 120 (nodes (sends 0 0 0) (sends 2 30 0) (sends 1 9 0)) ≡ done (2, 1, 9, three 5 0 0, 2, true))
    × (gives common_10 120 (nodes (sends 0 0 0) (sends 2 33 0) none) ≡ done (2, 0, 2, three 5 5 1, 15, true))
unfolding all
back_runner_chosen = (refl, refl)

-- "Its start is r + timeout where its progress = L, else its reported completion time. Among equal progress the largest start counts. The nodes that
-- reach it form a set; the back-runner is the lowest-numbered node of that set. New B is its progress, new W the larger of old W and its start."
-- The set is formed before the larger of old W is taken.
ties :
    (gives common_10 40 (nodes (sends 2 30 0) (sends 2 31 0) (sends 2 31 0)) ≡ done (2, 2, 31, three 0 0 0, 1, true))
    × (gives common_10 40 (nodes (sends 2 31 0) (sends 2 30 0) (sends 2 31 0)) ≡ done (2, 2, 31, three 0 0 0, 0, true))
    × (gives common_10 40 (nodes (sends 3 31 0) (sends 2 30 0) (sends 2 29 0)) ≡ done (3, 2, 30, three 0 0 0, 1, true))
    × (gives common_10 40 (nodes none (sends 3 31 0) (sends 3 30 0)) ≡ done (3, 3, 42, three 1 0 0, 1, true))
    × (gives (common (1 ∷ 0 ∷ 2 ∷ []) 0 35 3 [] none) 40 (nodes (sends 1 30 0) (sends 1 31 0) (sends 1 31 0)) ≡ done (3, 1, 35, three 0 0 0, 1, true))
unfolding all
ties = (refl, refl, refl, refl, refl)

-- "whether the number of nodes in class 0 or 5 is at least half of m, rounded down, plus 1": k of m nodes are heard.
abbrev heard : ℕ → ℕ → Bool
heard k m = majority (table m 2 canal.tasks) fresh 0 (replicate k (sends 0 0 0) ++ replicate (m - k) none)

majority_edges :
    (heard 1 3 ≡ false) × (heard 2 3 ≡ true)
    × (heard 2 4 ≡ false) × (heard 3 4 ≡ true)
    × (heard 7 15 ≡ false) × (heard 8 15 ≡ true)
    × (heard 0 1 ≡ false) × (heard 1 1 ≡ true)
    × (heard 1 2 ≡ false) × (heard 2 2 ≡ true)
unfolding all
majority_edges = (refl, refl, refl, refl, refl, refl, refl, refl, refl, refl)

-- HOW A RELEASE GOES IN

-- "past O, behind the last job there of the same or higher priority, ahead of the rest. With none such it stands at O + 1." Tasks alone do not tell two
-- jobs of one task apart, so its own priority is shown where a lower one stands between two of them.
goes_in :
    (insert canal 1 0 0 (jobs (1 ∷ 2 ∷ 1 ∷ 2 ∷ [])) ≡ jobs (1 ∷ 2 ∷ 1 ∷ 1 ∷ 2 ∷ []))
    × (insert canal 1 0 0 (jobs (2 ∷ 0 ∷ 2 ∷ [])) ≡ jobs (2 ∷ 0 ∷ 1 ∷ 2 ∷ []))
    × (insert canal 0 0 1 (jobs (2 ∷ 2 ∷ [])) ≡ jobs (2 ∷ 0 ∷ 2 ∷ []))
    × (insert canal 2 0 1 (jobs (2 ∷ 1 ∷ 2 ∷ [])) ≡ jobs (2 ∷ 1 ∷ 2 ∷ 2 ∷ []))
    × (map (λ i. place canal i 0 1 (jobs (2 ∷ 0 ∷ 1 ∷ 2 ∷ []))) (0 ∷ 1 ∷ 2 ∷ []) ≡ 2 ∷ 3 ∷ 4 ∷ [])
unfolding all
goes_in = (refl, refl, refl, refl, refl)

-- "each release goes in, in list order", past the new O.
in_list_order :
    ((close canal fresh (round_at 0 (released 2 0 ∷ released 0 0 ∷ released 1 1 ∷ []) (nodes none none none)) shows order) ≡ done (0 ∷ 1 ∷ 2 ∷ []))
    × ((close canal common_0 (round_at 30 (released 0 0 ∷ []) (nodes (sends 1 8 1) none none)) shows order) ≡ done (2 ∷ 0 ∷ []))
unfolding all
in_list_order = (refl, refl)

-- THE REFUSALS OF A RECORD

abbrev all_missing : List (Option Report)
all_missing = nodes none none none

abbrev only : Answer Closed → Answer (Option ℕ)
only a = a shows λ k. k.common.last

-- 3 "a record's r, not r + delay": above 2^48 − 1.
last_time :
    (only (close canal fresh (round_at (2 ^ 48 - 1) (released 0 0 ∷ released 1 1 ∷ []) all_missing)) ≡ done (some (2 ^ 48 - 1)))
    × (close canal fresh (silent (2 ^ 48)) ≡ refused 3)
unfolding all
last_time = (refl, refl)

-- 14 "r < last round + timeout (not for the first)"
distance :
    (close canal common_10 (silent 11) ≡ refused 14)
    × (only (close canal common_10 (silent 12)) ≡ done (some 12))
    × (only (close canal fresh (silent 0)) ≡ done (some 0))
    × (next (close canal fresh (silent 0)) (silent 1) ≡ refused 14)
    × (only (next (close canal fresh (silent 0)) (silent 2)) ≡ done (some 2))
unfolding all
distance = (refl, refl, refl, refl, refl)

abbrev lists : List Release → Answer (Option ℕ)
lists xs = only (close canal fresh (round_at 0 xs all_missing))

-- 15 "over 64 releases, entry count not m, unknown task, first delay not 0, delay ≥ timeout, or delays that fall". (Task 0 again and again is 16.)
well_formed :
    (lists (replicate 64 (released 0 0)) ≡ refused 16)
    × (lists (replicate 65 (released 0 0)) ≡ refused 15)
    × (close canal fresh (round_at 0 [] (none ∷ none ∷ [])) ≡ refused 15)
    × (close canal fresh (round_at 0 [] (none ∷ none ∷ none ∷ none ∷ [])) ≡ refused 15)
    × (lists (released 3 0 ∷ []) ≡ refused 15)
    × (lists (released (2 ^ 64 - 1) 0 ∷ []) ≡ refused 15)
    × (lists (released 2 0 ∷ []) ≡ done (some 0))
    × (lists (released 0 1 ∷ []) ≡ refused 15)
    × (lists (released 0 0 ∷ released 1 (2 ^ 64 - 1) ∷ []) ≡ refused 15)
    × (lists (released 0 0 ∷ released 1 1 ∷ released 2 0 ∷ []) ≡ refused 15)
    × (lists (released 0 0 ∷ released 1 1 ∷ released 2 1 ∷ []) ≡ done (some 0))
unfolding all
well_formed = (refl, refl, refl, refl, refl, refl, refl, refl, refl, refl, refl)

-- 16 "release time < E(task)": after round 0 that of task 1 is 200, and a delay counts.
due :
    (close canal common_0 (round_at 199 (released 1 0 ∷ []) all_missing) ≡ refused 16)
    × (only (close canal common_0 (round_at 200 (released 1 0 ∷ []) all_missing)) ≡ done (some 200))
    × (only (close canal common_0 (round_at 199 (released 0 0 ∷ released 1 1 ∷ []) all_missing)) ≡ done (some 199))
unfolding all
due = (refl, refl, refl)

-- "E(task) becomes release time + T": not + D, and here T is 150 and D 100.
abbrev again_at : ℕ → Answer (Option ℕ)
again_at r =
    only (close (table 3 2 (has 10 150 100 40 ∷ [])) fresh (round_at 0 (released 0 0 ∷ []) all_missing) >>= λ k.
    close (table 3 2 (has 10 150 100 40 ∷ [])) k.common (round_at r (released 0 0 ∷ []) all_missing))

due_by_distance : (again_at 149 ≡ refused 16) × (again_at 150 ≡ done (some 150))
unfolding all
due_by_distance = (refl, refl)

-- 17 "L + releases − new B > 256": 256 jobs are kept, all up to O, and the nodes that report have finished n of them; the new B is n.
abbrev full : ℕ → List Release → Answer (ℕ × ℕ)
full n xs =
    close canal (common (replicate 256 0) 0 0 256 [] none) (round_at 10 xs (nodes (sends n 0 0) none (sends n 0 0)))
    shows λ k. (k.common.B, length k.common.kept)

places_left :
    (full 0 [] ≡ done (0, 256))
    × (full 0 (released 0 0 ∷ []) ≡ refused 17)
    × (full 1 (released 0 0 ∷ []) ≡ done (1, 256))
    × (full 1 (released 0 0 ∷ released 1 0 ∷ []) ≡ refused 17)
    × (full 2 (released 0 0 ∷ released 1 0 ∷ []) ≡ done (2, 256))
unfolding all
places_left = (refl, refl, refl, refl, refl)

-- "then 3, 14, 15, 16, 17": each of these records has every later fault as well.
abbrev crowded : Common
crowded = common (replicate 256 0) 0 0 256 (5000 ∷ []) (some (2 ^ 48 - 1))

ladder :
    (close canal crowded (round_at (2 ^ 48) (released 0 0 ∷ released 3 0 ∷ []) all_missing) ≡ refused 3)
    × (close canal crowded (round_at 10 (released 0 0 ∷ released 3 0 ∷ []) all_missing) ≡ refused 14)
    × (close canal (same_but_last crowded 0) (round_at 10 (released 0 0 ∷ released 3 0 ∷ []) all_missing) ≡ refused 15)
    × (close canal (same_but_last crowded 0) (round_at 10 (released 0 0 ∷ []) all_missing) ≡ refused 16)
    × (close canal (same_but_last crowded 0) (round_at 5000 (released 0 0 ∷ []) all_missing) ≡ refused 17)
unfolding all
ladder = (refl, refl, refl, refl, refl)
