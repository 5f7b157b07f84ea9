-- `passes::back_runner` meets its contract: the zeros below the lowest bit are the lowest-numbered node. Assumes nothing.
use mathlib.Core.Path.{◌≡◌, sym, ◌∙◌}
use mathlib.Core.List.{List, map, foldr}
use Prim.Native.Nat.{ℕ, ◌≤◌, min, max}
use native.Mathlib.Omega.{arith}
use lib.Count.{count_trailing_zeros}
use lib.ListN.{length, length-take}
use borrow.Author.Rules.{rules}
use Rattle.std.specs.List.{fold, filter}
use Rattle.laws.specs.Tests.{◌=?◌}
use Rattle.laws.proofs.Folds.{bits, none_bits, some_bits}
use Rattle.passes.specs.declared.Classed.{Classed}
use Rattle.passes.specs.Classed.{no_class, is_rear, is_back, back_of, rear_step, start_step}
use Rattle.passes.proofs.Chains.{max_kept, min_kept}
use Rattle.passes.proofs.back_runner.Goals as goal

module _ (B W L : ℕ) (l : List Classed) {least latest set : ℕ}
    (p : least ≡ fold min L (map (λ x. x.progress) (filter (λ x. x.class =? 0) l)))
    (q : latest ≡ fold max 0 (map (λ x. x.start) (filter (is_rear least) l)))
    (e : set ≡ bits (is_back least latest) l) where
  at_least : least ≡ foldr rear_step L l
  at_least = p ∙ min_kept (λ x. x.progress) L (λ x. x.class =? 0) l

  at_latest : latest ≡ foldr (start_step least) 0 l
  at_latest = q ∙ max_kept (λ x. x.start) 0 (is_rear least) l

  no_back : set ≡ 0 → record { node = 15; base = B; start = W } ≡ back_of B W L l
  unfolding back_of
  no_back z = rw (← at_least, ← at_latest, none_bits (is_back least latest) no_class l (sym e ∙ z))

  a_back : length l ≤ 16 → (set ≡ 0 → ⊥) → {next : ℕ} → next ≡ max W latest → record { node = count_trailing_zeros 16 set; base = least; start = next } ≡ back_of B W L l
  unfolding back_of
  a_back h n g = rw (← at_least, ← at_latest, some_bits (is_back least latest) no_class 16 l h (λ z. n (e ∙ z)), g, e)

pub returns-then-set-eq0 : goal.returns-then-set-eq0
returns-then-set-eq0 c =
    let e = c.nodes_where-set.ensures (is_back c.least_progress-least.result c.largest_start-latest.result) (λ x r p. search rules) in
    no_back _ _ _ _ c.least_progress-least.ensures c.largest_start-latest.ensures e c.if-set-eq0.true

pub returns : goal.returns
returns c =
    let e = c.nodes_where-set.ensures (is_back c.least_progress-least.result c.largest_start-latest.result) (λ x r p. search rules) in
    let back = a_back _ _ _ _ c.least_progress-least.ensures c.largest_start-latest.ensures e (simp length-take (omega arith)) c.if-set-eq0.false c.max.ensures in
    rw c.from.ensures back
