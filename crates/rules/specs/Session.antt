-- The session program: from the bytes of the input to the bytes that it prints.
use Rattle.std.specs.Prelude.{ℕ, zero, suc, ◌+◌, ◌/◌, ◌%◌, length, take, if◌then◌else◌}
use mathlib.Core.List.{List, [], ◌∷◌, ◌++◌, map, foldr}
use Prim.Native.Char.{code}
use Prim.Native.String.{String}
use Rattle.laws.specs.Tests.{◌<?◌, ◌=?◌}
use Rattle.rules.specs.Answer.{Answer, done, refused, refused_by, refuse◌if◌else◌}
use Rattle.rules.specs.Table.{Task, Table, out_of_range, check}
use Rattle.rules.specs.Common.{Job, Common, fresh, L}
use Rattle.rules.specs.Close.{close}
use Rattle.rules.specs.Numbers.{Read, Reads, ◌>>=◌, give, number}
use Rattle.rules.specs.Written.{times, read_record}

-- A line of the output.
pub data Line : Type 0 where
  round : ℕ → Common → List ℕ → Line
  order : ℕ → List Job → Line
  refusal : ℕ → Line

abbrev pub order_line : Common → Line
order_line c = order (c.B + 1) c.kept

abbrev pub read_task : Reads Task
read_task = do
  C ← number
  T ← number
  D ← number
  S ← number
  give (record { C = C; T = T; D = D; S = S })

-- "m, timeout, task count, the four numbers per task"; "1 is decided as soon as the first three numbers are read"
unfoldable pub read_table : Reads Table
read_table = do
  m ← number
  timeout ← number
  count ← number
  count' ← (λ s. refuse 1 if out_of_range m timeout count else give count s)
  tasks ← times count' read_task
  (λ s. checked s (check (record { m = m; timeout = timeout; tasks = tasks })))
  where
    checked : List ℕ → Answer Table → Answer (Read Table)
    checked s (done t) = done (record { value = t; rest = s })
    checked s (refused n) = refused n
    checked s (refused_by n i) = refused_by n i

-- "A refusal prints `refused N` in place of the round line and stops, followed by the order line."
abbrev pub stopped : {A : Type 0} → Common → Answer A → (A → List Line) → List Line
stopped c (done a) go = go a
stopped c (refused n) go = refusal n ∷ order_line c ∷ []
stopped c (refused_by n i) go = refusal n ∷ order_line c ∷ []

-- "then records back to back"; "Input that ends between two records ends the session, with the order line." (A record has a byte at least:
-- the input itself bounds the number of rounds.)
unfoldable pub rounds : Table → List ℕ → Common → List ℕ → List Line
rounds tab [] c s = order_line c ∷ []
rounds tab (x ∷ bound) c s =
    if length s =? 0 then order_line c ∷ []
    else stopped c (read_record 64 15 s) λ q.
    stopped c (close tab c q.value) λ k.
    round q.value.r k.common (take tab.m k.reply.classes) ∷ rounds tab bound k.common q.rest

-- "A refused table, or a byte fault in it, prints only `refused N`"
abbrev pub after_table : List ℕ → Answer (Read Table) → List Line
after_table s (done t) = rounds t.value s fresh t.rest
after_table s (refused n) = refusal n ∷ []
after_table s (refused_by n i) = refusal n ∷ []

unfoldable pub session : List ℕ → List Line
session s = after_table s (read_table s)

-- The lines as bytes.
unfoldable pub ascii : String → List ℕ
ascii String.[] = []
ascii (String.◌∷◌ ch s) = code ch ∷ ascii s

unfoldable pub digits : ℕ → ℕ → List ℕ
digits zero n = []
digits (suc k) n = (if n <? 10 then [] else digits k (n / 10)) ++ ((48 + n % 10) ∷ [])

abbrev pub decimal : ℕ → List ℕ
decimal n = digits 20 n

unfoldable pub jobs_from : ℕ → List Job → List ℕ
jobs_from p [] = []
jobs_from p (j ∷ js) = ascii " " ++ decimal p ++ ascii ":" ++ decimal j.task_of ++ jobs_from (p + 1) js

-- "r, O, B, L, W after the round, the m classes; last, position:task of each job kept, blank between, or `order` alone"
unfoldable pub printed : Line → List ℕ
printed (round r c classes) =
    ascii "round " ++ decimal r ++ ascii " ipo " ++ decimal c.O ++ ascii " base " ++ decimal c.B ++ ascii " length " ++ decimal (L c)
    ++ ascii " toc " ++ decimal c.W ++ ascii " nodes " ++ map (λ d. 48 + d) classes ++ ascii "\n"
printed (order p jobs) = ascii "order" ++ jobs_from p jobs ++ ascii "\n"
printed (refusal n) = ascii "refused " ++ decimal n ++ ascii "\n"

unfoldable pub output : List ℕ → List ℕ
output s = foldr (λ l bs. printed l ++ bs) [] (session s)
