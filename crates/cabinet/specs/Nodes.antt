-- A node's operations at the doors: on the words of a table and of a node.
use Rattle.std.specs.Prelude.{List, ℕ}
use Rattle.rules.specs.Answer.{Answer, ◌>>=◌}
use Rattle.rules.specs.Node as rules
use Rattle.table.specs.Table.{table_of}
use Rattle.node.specs.Node.{node_of, node_as}
use Rattle.states.specs.Node.{node_words}
use Rattle.lists.specs.Lists.{round_at}
use Rattle.cabinet.specs.Looks.{held_at}

unfoldable pub start_door : List ℕ → List ℕ → ℕ → Answer rules.Started
start_door ts ns now = held_at ts ns >>= λ h. rules.start (table_of h.table) (node_of h.state) now

unfoldable pub finish_door : List ℕ → List ℕ → ℕ → Answer rules.Node
finish_door ts ns now = held_at ts ns >>= λ h. rules.finish (node_of h.state) now

unfoldable pub report_door : List ℕ → List ℕ → ℕ → Answer rules.Reported
report_door ts ns r = held_at ts ns >>= λ h. rules.report (table_of h.table) (node_of h.state) r

unfoldable pub close_door : List ℕ → List ℕ → ℕ → List ℕ → List ℕ → Answer rules.NodeClosed
close_door ts ns r rs es =
    held_at ts ns >>= λ h. round_at r rs es >>= λ q. rules.node_close (table_of h.table) (node_of h.state) q

-- What an accepted call writes anew.
abbrev pub words_of : rules.Node → List ℕ
words_of n = node_words (node_as n)
