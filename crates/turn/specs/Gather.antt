-- What a line asks of the numbers that it prints: they are so small that no sum wraps.
use Rattle.std.specs.Prelude.{◌≡◌, ℕ, ◌+◌, ◌^◌, ◌≤◌, ◌<◌, length}
use Rattle.common.specs.declared.Common.{Common}
use Rattle.lines.specs.Lines.{Digits}
use Rattle.turn.specs.declared.Turn.{Turn}

pub record Countable (c : Common) : Type 0 where
  pub places : length c.tasks ≡ 256
  pub few : c.count ≤ 256
  pub last : c.base + c.count < 2 ^ 64

-- A turn of a table of so many nodes.
pub record Printable (nodes : ℕ) (x : Turn) : Type 0 where
  pub nodes_few : nodes ≤ 15
  pub digits : Digits x.classes
  pub counts : Countable x.common
