-- The numbers before a round, and their ranges.
use Rattle.std.specs.Prelude.{◌+◌, ◌^◌, ◌≤◌, ◌<◌}
use Rattle.judge.specs.declared.class.Before.TheInside.{Inside}

-- "The values of B, W, O, L, E before the round are used": a clause sees the fields of `Before` as they are.
abbrev pub Numbers : Type 0
Numbers = Inside

-- What judging asks: the ranges of a record that was given back, and a time that passes refusal 3.
pub record Judgeable (b : Inside) : Type 0 where
  pub base : b.base ≤ b.offset
  pub offset : b.offset ≤ b.base + b.kept
  pub few : b.kept ≤ 256
  pub length_below : b.base + b.kept < 2 ^ 56
  pub time : b.time < 2 ^ 48
  pub timeout : b.timeout < 2 ^ 32
