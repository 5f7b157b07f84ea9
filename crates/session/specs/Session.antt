-- What the program's functions ask where a reading is refused.
use Rattle.std.specs.Prelude.{◌≡◌, ℕ, ◌≤◌}
use Rattle.refusal.specs.declared.Refusal.{Refusal}
use Rattle.refusal.specs.declared.Refusal.TheVariants.{BytesEnd}

-- Where the bytes are too few, they are so few that there is room for more.
pub record Few (error : Refusal) (bytes : ℕ) : Type 0 where
  pub short : error ≡ BytesEnd → bytes ≤ 4096
