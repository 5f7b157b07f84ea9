-- What is done with a common record at the doors, and asked of it: on the words of a table and of a record.
use Rattle.std.specs.Prelude.{List, map, ℕ, length}
use Rattle.laws.specs.Tests.{◌<?◌, ◌≤?◌}
use Rattle.laws.specs.Lists.{over}
use Rattle.rules.specs.Answer.{Answer, done, ◌>>=◌, refuse◌if◌else◌, refuse◌naming◌else◌}
use Rattle.rules.specs.Common.{Common, L, projection, breaker}
use Rattle.rules.specs.Close.{Closed, close, too_late}
use Rattle.table.specs.Table.{table_of}
use Rattle.common.specs.Common.{common_of, common_as}
use Rattle.states.specs.Common.{common_words}
use Rattle.lists.specs.Lists.{round_at}
use Rattle.cabinet.specs.Looks.{watched_at}

unfoldable pub close_station_door : List ℕ → List ℕ → ℕ → List ℕ → List ℕ → Answer Closed
close_station_door ts cs r rs es =
    watched_at ts cs >>= λ h. round_at r rs es >>= λ q. close (table_of h.table) (common_of h.state) q

-- "Projection of position p ≥ B"; 104 where the record keeps no such position.
unfoldable pub projection_door : List ℕ → List ℕ → ℕ → Answer ℕ
projection_door ts cs p =
    watched_at ts cs >>= λ h.
    let c = common_of h.state in
    refuse 104 if p <? c.B
    else refuse 104 if L c <? p
    else done (projection (table_of h.table) c p)

-- "Bound for position p at time t", of a job that is kept: 9 names "the lowest-numbered task that breaks it".
unfoldable pub bound_door : List ℕ → List ℕ → ℕ → ℕ → Answer ℕ
bound_door ts cs p t =
    watched_at ts cs >>= λ h.
    let c = common_of h.state in
    refuse 3 if too_late t
    else refuse 104 if p ≤? c.B
    else refuse 104 if L c <? p
    else refuse 9 naming breaker (table_of h.table) c p t
    else done 0

-- The tasks of the jobs kept, from position B + 1 on; 100 where the list has not so many places.
unfoldable pub order_door : List ℕ → List ℕ → List ℕ → Answer (List ℕ)
order_door ts cs os =
    watched_at ts cs >>= λ h.
    let order = map (λ j. j.task_of) (common_of h.state).kept in
    refuse 100 if length os <? length order else done order

-- What an accepted close writes anew.
abbrev pub words_of : Common → List ℕ
words_of c = common_words (common_as c)

-- "places past the count stay as they were"
abbrev pub order_over : List ℕ → List ℕ → List ℕ
order_over os order = over order os
