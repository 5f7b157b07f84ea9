-- The invariant of one node: what is so after any calls, whatever the other nodes do. It needs no healthiness.
use Rattle.std.specs.Prelude.{if◌then◌else◌}
use mathlib.Core.Path.{◌≡◌}
use mathlib.Core.Logic.{◌⊎◌}
use mathlib.Core.Option.{none, some}
use mathlib.Core.List.{List, ◌∷◌, ◌++◌, Memᴰ}
use Prim.Native.Nat.{ℕ, ◌+◌, ◌≤◌, ◌<◌, max}
use lib.ListN.{length, get_or}
use Rattle.laws.specs.Lists.{Prefix}
use Rattle.rules.specs.Table.{Table}
use Rattle.rules.specs.Judge.{Round}
use Rattle.rules.specs.Node.{Open, lock}
use Rattle.rules.specs.Cabinet.{Watched}
use Rattle.rules.specs.Agreement.{common_after, order_after, Good}
use Rattle.rules.proofs.Basis.{Bounded}
use Rattle.rules.proofs.Rising.{Below, Rising}

-- what node i sent as w stands in one of the records qs, and is good there
pub record Answered (tab : Table) (i : ℕ) (qs : List Round) (w : Open) : Type 0 where
  pub before : List Round
  pub q : Round
  pub behind : List Round
  pub split : qs ≡ before ++ (q ∷ behind)
  pub same_r : q.r ≡ w.r
  pub entry : get_or q.entries i none ≡ some w.sent
  pub good : Good tab (common_after tab before) w.r w.sent

pub record Inv (tab : Table) (x : Watched) : Type 0 where
  pub history : x.node.common ≡ common_after tab x.closed
  pub right : Prefix x.started (order_after tab x.closed)
  pub count : length x.started ≡ x.node.progress + (if x.node.running then 1 else 0)
  pub past : x.node.completed ≤ x.node.latest
  -- left behind: no round is open, and all that it has started is up to O
  pub stopped : x.node.progress < x.node.common.B → (x.node.round ≡ none) × (length x.started ≤ x.node.common.O)
  -- not so, and no round open: all that it has started past O is within the bound
  pub free : x.node.common.B ≤ x.node.progress → x.node.round ≡ none → Bounded tab x.node.common x.node.latest (length x.started)
  -- not so, and a round open: its report is good, and all that it has started is up to O or the lock
  pub locked : x.node.common.B ≤ x.node.progress → (w : Open) → x.node.round ≡ some w
      → Good tab x.node.common w.r w.sent × (length x.started ≤ max x.node.common.O (lock w))
  pub answered : (w : Open) → Memᴰ w x.sent → (x.node.round ≡ some w) ⊎ Answered tab x.node.number x.closed w
  -- the node's own clock: the r of its records rises
  pub old : Below x.node.latest x.closed
  pub older : (w : Open) → x.node.round ≡ some w → Below w.r x.closed
  pub rising : Rising x.closed
