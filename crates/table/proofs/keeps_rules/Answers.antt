-- A number that is too large ends the test; else no sum wraps.
use mathlib.Core.Path.{◌≡◌, sym, ◌∙◌}
use mathlib.Core.Bool.{Bool, true}
use Prim.Native.Nat.{◌≤◌}
use borrow.Author.Tests.{leb-true}
use Rattle.laws.proofs.Tests.{each_of}
use Rattle.rules.specs.Table.{Task}
use Rattle.table.specs.Check.{small_numbers}
use Rattle.table.proofs.keeps_rules.Goals as goal

no_wrap : (k : Task) {b : Bool} → b ≡ small_numbers k → b ≡ true → (k.C ≤ 4294967295) × (k.S ≤ 4294967295)
unfolding small_numbers
no_wrap k e h = let a = each_of _ (sym e ∙ h) in (leb-true _ _ (a 0), leb-true _ _ (a 3))

pub in_order-requires : goal.in_order-requires
in_order-requires c = no_wrap _ c.small_numbers.ensures c.if-small_numbers.true
