-- `insertion::place` meets its contract: the last of those looked through that passes the test, if any does.
use mathlib.Core.Path.{◌≡◌, refl}
use mathlib.Core.Bool.{Bool, false, not}
use mathlib.Core.List.{List, [], ◌∷◌}
use Prim.Native.Nat.{ℕ, suc, ◌+◌, ◌-◌, ◌≤◌, ◌<◌}
use native.Mathlib.Omega.{arith}
use borrow.Author.Tests.{lt-ltb, le-ltb}
use lib.ListN.{length, take, drop, get_or, length-drop}
use lib.Seq.{get_or-drop}
use Rattle.std.proofs.lemmas.Slice.{between_is}
use Rattle.std.proofs.lemmas.Grind.{common_steps}
use Rattle.laws.specs.Tests.{◌<?◌}
use Rattle.laws.specs.Search.{up_to_last}
use Rattle.laws.proofs.Insertion.{last_here}
use Rattle.release.specs.Insertion.{place_in}
use Rattle.release.proofs.insertion.place.Goals as goal

none_passes : (f : ℕ → Bool) (l : List ℕ) → ((k : ℕ) → k < length l → f (get_or l k 0) ≡ false) → up_to_last f l ≡ 0
unfolding up_to_last
none_passes f [] h = refl
none_passes f (x ∷ l) h =
    let rest : up_to_last f l ≡ 0 = none_passes f l (λ k m. h (suc k) (omega arith)) in
    rw (rest, h 0 (omega arith))

module _ (count past task : ℕ) (tasks : List ℕ) {l : List ℕ} (e : l ≡ take (count - past) (drop past tasks)) where
  none : ((k : ℕ) → k < length l → task < get_or l k 0) → past ≡ place_in task past (take count tasks)
  unfolding place_in
  none h =
      let z : up_to_last (λ j. not (task <? j)) l ≡ 0 = none_passes (λ j. not (task <? j)) l (λ k m. rw (lt-ltb task (get_or l k 0) (h k m))) in
      rw (← between_is tasks past count, ← e, z) (omega arith)

  last : {i : ℕ} → i < length l → get_or l i 0 ≤ task → ((k : ℕ) → i < k → k < length l → task < get_or l k 0)
      → past + i + 1 ≡ place_in task past (take count tasks)
  unfolding place_in
  last {i} m p h =
      let past_it : up_to_last (λ j. not (task <? j)) (drop (i + 1) l) ≡ 0 =
      none_passes (λ j. not (task <? j)) (drop (i + 1) l) (λ k n. rw (get_or-drop (i + 1) l k 0, lt-ltb task (get_or l (i + 1 + k) 0) (h (i + 1 + k) (omega arith) (omega (arith, length-drop (i + 1) l))))) in
      let z : 0 + up_to_last (λ j. not (task <? j)) (drop 0 l) ≡ i + 1 =
      last_here (λ j. not (task <? j)) l i 0 m refl past_it 0 (omega arith) (rw (le-ltb task (get_or l i 0) p)) in
      rw (← between_is tasks past count, ← e) (omega (arith, z))

pub returns-in-Some : goal.returns-in-Some
returns-in-Some c =
    let l = c.iter.result.rest.now in
    let m : c.in-Some.i < length l = grind (arith, common_steps) in
    let p : get_or l c.in-Some.i 0 ≤ c.args.task = grind (arith, common_steps) in
    let h : (k : ℕ) → c.in-Some.i < k → k < length l → c.args.task < get_or l k 0 = λ k m n. grind (arith, common_steps) in
    last c.args.count c.args.past c.args.task c.args.tasks.now c.iter.ensures.rest m p h

pub returns-in-None : goal.returns-in-None
returns-in-None c =
    let l = c.iter.result.rest.now in
    let h : (k : ℕ) → k < length l → c.args.task < get_or l k 0 = λ k m. grind (arith, common_steps) in
    none c.args.count c.args.past c.args.task c.args.tasks.now c.iter.ensures.rest h
