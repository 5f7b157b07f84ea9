-- What reading the table from the window leaves: a checked table, and where the bytes end so few that there is room for more.
use mathlib.Core.Path.{◌≡◌, sym, ap, ◌∙◌}
use mathlib.Core.List.{List}
use Prim.Native.Nat.{ℕ, ◌≤◌}
use native.Mathlib.Omega.{arith}
use lib.ListN.{length, take, length-take}
use Rattle.rules.specs.Answer.{refused}
use Rattle.rules.specs.Session.{read_table}
use Rattle.refusal.specs.declared.Refusal.{Refusal}
use Rattle.refusal.specs.declared.Refusal.TheVariants.{BytesEnd}
use Rattle.refusal.specs.Refusal.{number_of}
use Rattle.intake.specs.Table.{table_read}
use Rattle.intake.proofs.Settled.{table_short}

pub few : (input : List ℕ) (to : ℕ) → to ≤ length input → {error : Refusal}
    → refused (number_of error) ≡ table_read (take to input) (read_table (take to input)) → error ≡ BytesEnd → to ≤ 4096
few input to h p e =
    let long : length (take to input) ≡ to = rw length-take (omega (arith, h)) in
    omega (arith, long, table_short (take to input) (ap (λ d. refused (number_of d)) (sym e) ∙ p))
