-- What always holds of the states that the rules give back: the ranges that code may rely on, and no more. "Always B ≤ O ≤ L"; "at most 256 are kept".
use Rattle.std.specs.Prelude.{◌≡◌, ℕ, ◌+◌, ◌^◌, ◌≤◌, ◌<◌, length, get_or, if◌then◌else◌}
use Rattle.std.proofs.Math.Option.{some}
use Rattle.laws.specs.Sums.{total}
use Rattle.rules.specs.Table.{Table}
use Rattle.rules.specs.Common.{Common, no_job, L}
use Rattle.rules.specs.Node.{Open, Node}

-- "L needs no refusal": every release lifts its task's E by 1 at least, so L is at most the sum of E; and E, like W, lies less than 2^33 past a
-- round's time, which is below 2^48.
pub record Sound (tab : Table) (c : Common) : Type 0 where
  pub base : c.B ≤ c.O
  pub offset : c.O ≤ L c
  pub few : length c.kept ≤ 256
  pub known : (k : ℕ) → k < length c.kept → (get_or c.kept k no_job).task_of < length tab.tasks
  pub places : length c.E ≡ 64
  pub released : L c ≤ total c.E
  pub E_below : (i : ℕ) → get_or c.E i 0 < 2 ^ 49
  pub W_below : c.W < 2 ^ 49
  pub last_below : (l : ℕ) → c.last ≡ some l → l < 2 ^ 48

-- Of what a node sent for the round that is open.
pub record SoundOpen (c : Common) (o : Open) : Type 0 where
  pub time : o.r < 2 ^ 48
  pub progress : o.sent.progress ≤ L c
  pub completed : o.sent.completed < 2 ^ 48
  pub run : o.sent.run ≤ 1

-- A node has finished no job that does not exist, and the one that runs exists.
pub record SoundNode (tab : Table) (n : Node) : Type 0 where
  pub number : n.number < tab.m
  pub common : Sound tab n.common
  pub progress : n.progress + (if n.running then 1 else 0) ≤ L n.common
  pub completed : n.completed < 2 ^ 48
  pub latest : n.latest < 2 ^ 49
  pub round : (o : Open) → n.round ≡ some o → SoundOpen n.common o
