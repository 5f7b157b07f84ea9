-- The sum of E, once each of them is small; and the two conditions that stand on it.
use mathlib.Core.Path.{◌≡◌, sym, ap, ◌∙◌}
use mathlib.Core.Bool.{Bool, true, false, and-true}
use mathlib.Core.List.{List}
use Prim.Native.Nat.{ℕ, ◌^◌, ◌<◌}
use lib.ListN.{length, take, drop, get_or, length-drop}
use lib.Seq.{length-take-le}
use native.Mathlib.Omega.{arith}
use Rattle.std.specs.List.{sum}
use Rattle.states.proofs.Below.{small_sum, sum_total}
use Rattle.laws.specs.Tests.{all_of}
use Rattle.laws.specs.Sums.{total}
use Rattle.table.specs.declared.Table.{Table}
use Rattle.states.specs.Common.{common_in, all_below, small_common, in_place, known_tasks, known_common}
use borrow.Author.Rules.{rules}
use Rattle.states.proofs.commons.known_common.Goals as goal

module _ (t : Table) (ws : List ℕ) {a : Bool} (p : a ≡ small_common (get_or ws 4 0) (get_or ws 5 0) (get_or ws 1 0) (get_or ws 3 0)) (h : a ≡ true)
    {b : Bool} (q : b ≡ all_below (2 ^ 49) (take 64 (drop 6 ws))) (k : b ≡ true) where
  may_sum : length ws ≡ 326 → sum (take 64 (drop 6 ws)) < 2 ^ 64
  may_sum l = small_sum (take 64 (drop 6 ws)) (length-take-le 64 (drop 6 ws) (rw length-drop (omega arith))) (sym q ∙ k)

  module _ {released : ℕ} (u : released ≡ sum (take 64 (drop 6 ws))) {d : Bool} (v : d ≡ in_place (get_or ws 0 0) (get_or ws 2 0) (get_or ws 3 0) released) where
    placed_is : d ≡ in_place (get_or ws 0 0) (get_or ws 2 0) (get_or ws 3 0) (total (take 64 (drop 6 ws)))
    placed_is = v ∙ ap (in_place (get_or ws 0 0) (get_or ws 2 0) (get_or ws 3 0)) (u ∙ sum_total (take 64 (drop 6 ws)))

    not_placed : d ≡ false → false ≡ known_common t ws
    unfolding known_common common_in all_of
    not_placed g = rw (← p, h, ← q, k, ← placed_is, g)

    the_rest : d ≡ true → {r : Bool} → r ≡ known_tasks t.count (get_or ws 3 0) (take 256 (drop 70 ws)) → r ≡ known_common t ws
    unfolding known_common common_in all_of
    the_rest g {r} w = rw (← p, h, ← q, k, ← placed_is, g, ← w) (sym (and-true r))

pub sum-released-requires-clause-fits : goal.sum-released-requires-clause-fits
sum-released-requires-clause-fits c =
    let h : sum (take 64 (drop 6 c.args.words.now)) < 2 ^ 64 = search may_sum in
    search rules

pub returns-then-not-in_place : goal.returns-then-not-in_place
returns-then-not-in_place c =
    let u : c.sum-released.result ≡ sum (take 64 (drop 6 c.args.words.now)) = search rules in
    search not_placed

pub returns : goal.returns
returns c =
    let u : c.sum-released.result ≡ sum (take 64 (drop 6 c.args.words.now)) = search rules in
    search the_rest
