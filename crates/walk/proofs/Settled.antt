-- Any two replies that a contract admits coincide.
use mathlib.Core.Path.{◌≡◌, sym, ◌∙◌}
use mathlib.Core.List.{List}
use Prim.Native.Nat.{ℕ}
use Rattle.laws.specs.Search.{first_from}
use Rattle.walk.specs.declared.Walked.{Walked}
use Rattle.walk.specs.Walk.{walked_to, broken_at}

pub walk_order_settled : (longest tasks : List ℕ) (start : ℕ) (earliest slack : List ℕ) (count t from kept : ℕ) {r s : Walked}
    → r ≡ walked_to longest tasks start (first_from (broken_at longest tasks start earliest slack count t) from kept)
    → s ≡ walked_to longest tasks start (first_from (broken_at longest tasks start earliest slack count t) from kept) → r ≡ s
walk_order_settled longest tasks start earliest slack count t from kept e d = e ∙ sym d
