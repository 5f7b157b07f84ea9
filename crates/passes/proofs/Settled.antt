-- Any two replies that a contract admits coincide.
use mathlib.Core.Path.{◌≡◌, sym, ◌∙◌}
use mathlib.Core.Bool.{Bool}
use mathlib.Core.List.{List, [], foldr, map}
use Prim.Native.Nat.{ℕ, ◌+◌, ◌/◌}
use lib.ListN.{take}
use Rattle.laws.specs.Tests.{◌≤?◌}
use Rattle.laws.specs.Search.{number_of}
use Rattle.laws.specs.Lists.{pad}
use Rattle.passes.specs.declared.Back.{Back}
use Rattle.passes.specs.declared.Classed.{Classed}
use Rattle.passes.specs.Classed.{no_class, class_in, in_front, front_step, back_of}

pub none_classed_settled : {r s : List Classed} → r ≡ pad 15 no_class [] → s ≡ pad 15 no_class [] → r ≡ s
none_classed_settled e d = e ∙ sym d

pub counts_settled : (class : ℕ) {r s : Bool} → r ≡ in_front class → s ≡ in_front class → r ≡ s
counts_settled class e d = e ∙ sym d

module _ (all : List Classed) (n : ℕ) where
  pub new_offset_settled : (offset : ℕ) {r s : ℕ} → r ≡ foldr front_step offset (take n all) → s ≡ foldr front_step offset (take n all) → r ≡ s
  new_offset_settled offset e d = e ∙ sym d

  pub classes_of_settled : {r s : List ℕ} → r ≡ pad 15 0 (map class_in (take n all)) → s ≡ pad 15 0 (map class_in (take n all)) → r ≡ s
  classes_of_settled e d = e ∙ sym d

  pub back_runner_settled : (base start length : ℕ) {r s : Back} → r ≡ back_of base start length (take n all) → s ≡ back_of base start length (take n all) → r ≡ s
  back_runner_settled base start length e d = e ∙ sym d

  pub has_majority_settled : (nodes : ℕ) {r s : Bool} → r ≡ (nodes / 2 + 1 ≤? number_of (λ x. in_front (class_in x)) (take n all))
      → s ≡ (nodes / 2 + 1 ≤? number_of (λ x. in_front (class_in x)) (take n all)) → r ≡ s
  has_majority_settled nodes e d = e ∙ sym d
