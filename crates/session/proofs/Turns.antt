-- What a turn on the window leaves: a record that can be printed and is one that was given back, and where the bytes end so few of them that there is room for more.
use mathlib.Core.Path.{◌≡◌, ap}
use mathlib.Core.List.{List}
use Prim.Native.Nat.{ℕ, ◌-◌, ◌≤◌}
use native.Mathlib.Omega.{arith}
use lib.ListN.{length, take, drop, length-take, length-drop}
use Rattle.rules.specs.Answer.{done, refused}
use Rattle.refusal.specs.declared.Refusal.{Refusal}
use Rattle.refusal.specs.Refusal.{number_of}
use Rattle.table.specs.declared.Table.{Table}
use Rattle.table.specs.Table.{table_of, Checked}
use Rattle.common.specs.Common.{common_of, Given}
use Rattle.turn.specs.declared.Turn.{Turn}
use Rattle.turn.specs.Turn.{turn_of, turn_read}
use Rattle.turn.specs.Gather.{Countable, Printable}
use Rattle.turn.proofs.Settled.{turn_given, turn_short, turn_printable, given_countable}
use Rattle.session.specs.declared.State.{State}
use Rattle.session.specs.Session.{Few}

-- the bytes not yet used
abbrev pub unused : State → List ℕ → List ℕ
unused s input = drop s.window.from (take s.window.to input)

module _ (t : Table) (s : State) (input : List ℕ) (k : Checked t) (v : Given t s.common) where
  pub refused_asks : {error : Refusal} → s.window.to ≤ length input
      → refused (number_of error) ≡ turn_read (unused s input) (turn_of (table_of t) (common_of s.common) (unused s input))
      → Few error (s.window.to - s.window.from) × Countable s.common
  refused_asks h p =
      let long : length (unused s input) ≡ s.window.to - s.window.from = rw (length-drop, length-take) (omega (arith, h)) in
      (record { short = λ e. omega (arith, long, turn_short t s.common (unused s input) p (ap number_of e)) }, given_countable v)

  module _ {x : Turn} (p : done x ≡ turn_read (unused s input) (turn_of (table_of t) (common_of s.common) (unused s input))) where
    pub round_asks : Printable t.nodes x
    round_asks = turn_printable t s.common (unused s input) p k v

    pub next_given : Given t x.common
    next_given = turn_given t s.common (unused s input) p k v
