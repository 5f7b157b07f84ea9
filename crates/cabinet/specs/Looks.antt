-- The table and the state that a call is lent: looked at from left to right, each first for its length, then for what it holds.
use Rattle.std.specs.Prelude.{List, ℕ}
use Rattle.rules.specs.Answer.{Answer, done, ◌>>=◌}
use Rattle.refusal.specs.Refusal.{told_as}
use Rattle.table.specs.declared.Table.{Table}
use Rattle.common.specs.declared.Common.{Common}
use Rattle.node.specs.declared.Node.{Node}
use Rattle.words.specs.Table.{table_at}
use Rattle.states.specs.Common.{common_at}
use Rattle.states.specs.Node.{node_at}

-- A state with its table.
pub record Under (A : Type 0) : Type 0 where
  pub table : Table
  pub state : A

abbrev pub under : {A : Type 0} → Table → A → Answer (Under A)
under t x = done (record { table = t; state = x })

-- A state in words under a table in words.
unfoldable pub looked_at : {A : Type 0} → (Table → List ℕ → Answer A) → List ℕ → List ℕ → Answer (Under A)
looked_at at ts ws = table_at ts >>= λ t. at t ws >>= under t

abbrev pub watched_at : List ℕ → List ℕ → Answer (Under Common)
watched_at = looked_at common_at

abbrev pub held_at : List ℕ → List ℕ → Answer (Under Node)
held_at = looked_at node_at

-- By value: both.
abbrev pub looked : {A : Type 0} → Answer (Under A) → Answer (Table × A)
looked = told_as (λ h. (h.table, h.state))
