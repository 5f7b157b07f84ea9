-- The places used, and those that are not: two stretches of words.
use mathlib.Core.Path.{◌≡◌, sym, ap, ◌∙◌}
use mathlib.Core.Bool.{Bool, true, false, and-true}
use mathlib.Core.List.{List}
use Prim.Native.Nat.{ℕ, ◌+◌, ◌-◌, ◌≤◌}
use native.Mathlib.Omega.{arith}
use lib.ListN.{length, take, drop, length-drop}
use lib.Seq.{take_all, drop-drop}
use Rattle.laws.specs.Tests.{all_of}
use Rattle.states.specs.Common.{all_below, known_tasks}
use Rattle.states.proofs.commons.known_tasks.Goals as goal

module _ (ws : List ℕ) (count number : ℕ) (long : length ws ≡ 326) (few : count ≤ 256) where
  all_places : take 256 (drop 70 ws) ≡ drop 70 ws
  all_places = take_all 256 (drop 70 ws) (rw length-drop (omega arith))

  used : take (70 + count - 70) (drop 70 ws) ≡ take count (take 256 (drop 70 ws))
  used =
      let e : 70 + count - 70 ≡ count = omega arith in
      rw (e, all_places)

  unused : take (length ws - (70 + count)) (drop (70 + count) ws) ≡ drop count (take 256 (drop 70 ws))
  unused =
      take_all (length ws - (70 + count)) (drop (70 + count) ws) (rw length-drop (omega arith))
      ∙ sym (ap (drop count) all_places ∙ drop-drop count 70 ws)

  module _ {b : Bool} (p : b ≡ all_below number (take (70 + count - 70) (drop 70 ws))) where
    unknown : b ≡ false → b ≡ known_tasks number count (take 256 (drop 70 ws))
    unfolding known_tasks all_of
    unknown h = h ∙ rw (← used, ← p, h)

    the_rest : b ≡ true → {r : Bool} → r ≡ all_below 1 (take (length ws - (70 + count)) (drop (70 + count) ws))
        → r ≡ known_tasks number count (take 256 (drop 70 ws))
    unfolding known_tasks all_of
    the_rest h {r} q = rw (← used, ← p, h, ← unused, ← q) (sym (and-true r))

pub returns-then-all_below : goal.returns-then-all_below
returns-then-all_below c = search the_rest

pub returns-else-all_below : goal.returns-else-all_below
returns-else-all_below c = search unknown
