-- A table checked, and states at the start, at the doors. A fresh state is written whatever stood in its words: only their number is looked at.
use Rattle.std.specs.Prelude.{not, List, ℕ, length}
use Rattle.laws.specs.Tests.{◌=?◌}
use Rattle.rules.specs.Answer.{Answer, done, ◌>>=◌, refuse◌if◌else◌}
use Rattle.rules.specs.Table as tables
use Rattle.rules.specs.Common as commons
use Rattle.rules.specs.Node as nodes
use Rattle.table.specs.Table.{table_of}
use Rattle.words.specs.Table.{table_in, table_at}

-- "table 1, 2"
unfoldable pub check_door : List ℕ → Answer tables.Table
check_door ts = refuse 100 if not (length ts =? 259) else tables.check (table_of (table_in ts))

unfoldable pub fresh_common_door : List ℕ → Answer commons.Common
fresh_common_door cs = refuse 100 if not (length cs =? 326) else done commons.fresh

-- 1: "node number ≥ m"
unfoldable pub fresh_node_door : List ℕ → List ℕ → ℕ → Answer nodes.Node
fresh_node_door ts ns number = table_at ts >>= λ t. refuse 100 if not (length ns =? 336) else nodes.fresh_node (table_of t) number
