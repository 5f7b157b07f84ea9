-- What judging a round keeps: B ≤ new B ≤ new O ≤ L, O ≤ new O, W ≤ new W, and what a report of class 0 or 5 is.
use Rattle.std.specs.Prelude.{if◌then◌else◌}
use mathlib.Core.Path.{◌≡◌, refl}
use mathlib.Core.Bool.{Bool, true, false, ◌||◌, false≢true}
use mathlib.Core.Logic.{◌⊎◌, inl, inr}
use mathlib.Core.Option.{Option, none, some}
use mathlib.Core.List.{List, [], ◌∷◌, foldr}
use Prim.Native.Nat.{ℕ, zero, suc, ◌+◌, ◌≤◌, max}
use native.Mathlib.Omega.{arith}
use lib.ListN.{length, get_or}
use borrow.Author.Tests.{ltb-false, le-ltb, eqb-true}
use Rattle.laws.specs.Tests.{◌=?◌, any_of, found}
use Rattle.laws.specs.Search.{lowest}
use Rattle.laws.proofs.Tests.{if_cases, none_of, and_yes}
use Rattle.laws.proofs.Search.{Says, lowest_says}
use Rattle.laws.proofs.Lists.{foldr_keeps}
use Rattle.rules.specs.Table.{Table}
use Rattle.rules.specs.Common.{Common, L}
use Rattle.rules.specs.Judge.{Report, malformed, behind, over_bound, late, class, numbers, counts, reach, new_O, rear, at_rear, least_progress, start_of, latest_start, largest_start, in_set, back_runner, new_B, new_W}

-- the first class that fits is 0 or 5: none of 2, 3, 4 fits
first_fits : (a b d l : Bool) →
    let k : ℕ = if a then 2 else if b then 3 else if d then 4 else if l then 5 else 0 in
    ((k =? 0) || (k =? 5)) ≡ true → (a ≡ false) × (b ≡ false) × (d ≡ false)
first_fits true b d l h = absurd (false≢true h)
first_fits false true d l h = absurd (false≢true h)
first_fits false false true l h = absurd (false≢true h)
first_fits false false false l h = (refl, refl, refl)

module _ (tab : Table) (c : Common) (r : ℕ) where
  -- and where none of 2, 3, 4 fits, it is 0 or 5
  counts_else : (e : Report) → malformed tab c r e ≡ false → behind tab c r e ≡ false → over_bound tab c r e ≡ false → counts tab c r (some e) ≡ true
  unfolding class
  counts_else e m b o = rw (m, b, o) (by (late tab c r e))
    where
      by : (l : Bool) → let k : ℕ = if l then 5 else 0 in ((k =? 0) || (k =? 5)) ≡ true
      by true = refl
      by false = refl

  -- a report that is neither malformed, nor behind, nor over the bound
  pub record Stands (e : Report) : Type 0 where
    pub run : e.run ≤ 1
    pub inside : e.progress + e.run ≤ L c
    pub completed : e.completed ≤ r
    pub base : c.B ≤ e.progress
    pub bound : over_bound tab c r e ≡ false

  -- every report of class 0 or 5 is such a one
  pub stands : (x : Option Report) → counts tab c r x ≡ true → Stands (numbers x)
  unfolding class malformed
  stands none h = absurd (false≢true h)
  stands (some e) h =
      let k = first_fits (malformed tab c r e) (behind tab c r e) (over_bound tab c r e) (late tab c r e) h in
      let a = none_of _ k.0 in
      record {
        run = ltb-false _ _ (a 0);
        inside = ltb-false _ _ (a 1);
        completed = ltb-false _ _ (a 2);
        base = ltb-false _ _ k.1;
        bound = k.2;
      }

  -- and every such report is of class 0 or 5
  pub counted : (e : Report) → Stands e → counts tab c r (some e) ≡ true
  unfolding malformed any_of
  counted e s = counts_else e well_formed (le-ltb e.progress c.B s.base) s.bound
    where
      well_formed : malformed tab c r e ≡ false
      well_formed = rw (le-ltb 1 e.run s.run, le-ltb (L c) (e.progress + e.run) s.inside, le-ltb r e.completed s.completed)

  pub zero_or_five : (x : Option Report) → counts tab c r x ≡ true → (class tab c r x ≡ 0) ⊎ (class tab c r x ≡ 5)
  zero_or_five x h = by (class tab c r x =? 0) refl h
    where
      by : (t : Bool) → (class tab c r x =? 0) ≡ t → (t || (class tab c r x =? 5)) ≡ true → (class tab c r x ≡ 0) ⊎ (class tab c r x ≡ 5)
      by true e k = inl (eqb-true _ _ e)
      by false e k = inr (eqb-true _ _ k)

  -- O does not fall, and stays within L
  pub O_rises : (es : List (Option Report)) → c.O ≤ new_O tab c r es
  unfolding new_O
  O_rises = foldr_keeps (λ o. c.O ≤ o) (reach tab c r) (λ x o h. if_cases (λ n. c.O ≤ n) (counts tab c r x) _ o (λ e. omega arith) (λ e. h)) (omega arith)

  pub O_within : c.O ≤ L c → (es : List (Option Report)) → new_O tab c r es ≤ L c
  unfolding new_O
  O_within l =
      foldr_keeps (λ o. o ≤ L c) (reach tab c r)
      (λ x o h. if_cases (λ n. n ≤ L c) (counts tab c r x) _ o (λ e. let s = (stands x e).inside in omega arith) (λ e. h)) l

  -- an entry that counts is reached by it
  reached : (es : List (Option Report)) (i : ℕ) → counts tab c r (get_or es i none) ≡ true → (numbers (get_or es i none)).progress + (numbers (get_or es i none)).run ≤ foldr (reach tab c r) c.O es
  unfolding class
  reached [] i h = absurd (false≢true h)
  reached (x ∷ es) zero h = rw h (omega arith)
  reached (x ∷ es) (suc i) h =
      let k = reached es i h in
      if_cases (λ n. (numbers (get_or es i none)).progress + (numbers (get_or es i none)).run ≤ n) (counts tab c r x) _ _ (λ e. omega arith) (λ e. k)

  pub O_reaches : (es : List (Option Report)) (i : ℕ) → counts tab c r (get_or es i none) ≡ true → (numbers (get_or es i none)).progress + (numbers (get_or es i none)).run ≤ new_O tab c r es
  unfolding new_O
  O_reaches = reached

  -- class 0 counts
  zero_counts : (x : Option Report) → (class tab c r x =? 0) ≡ true → counts tab c r x ≡ true
  zero_counts x h = rw h

  least_past : (es : List (Option Report)) → c.B ≤ least_progress tab c r es
  unfolding least_progress
  least_past =
      foldr_keeps (λ b. c.B ≤ b) (rear tab c r)
      (λ x b h. if_cases (λ n. c.B ≤ n) (class tab c r x =? 0) _ b (λ e. let s = (stands x (zero_counts x e)).base in omega arith) (λ e. h)) (omega arith)

  -- "Its start is r + timeout where its progress = L, else its reported completion time", which is at most r
  start_within : (x : Option Report) → (class tab c r x =? 0) ≡ true → start_of tab c r (numbers x) ≤ r + tab.timeout
  unfolding start_of
  start_within x h =
      if_cases (λ n. n ≤ r + tab.timeout) ((numbers x).progress =? L c) (r + tab.timeout) (numbers x).completed (λ e. omega arith)
      (λ e. omega (arith, (stands x (zero_counts x h)).completed))

  largest_within : (b : ℕ) (es : List (Option Report)) → largest_start tab c r b es ≤ r + tab.timeout
  unfolding largest_start
  largest_within b =
      foldr_keeps (λ s. s ≤ r + tab.timeout) (latest_start tab c r b)
      (λ x s h. if_cases (λ n. n ≤ r + tab.timeout) (at_rear tab c r b x) _ s (λ e. let k = start_within x (and_yes _ _ e).0 in omega arith) (λ e. h)) (omega arith)

  module _ (es : List (Option Report)) where
    -- the back-runner is of class 0 and has the least progress
    set_reaches : (i : ℕ) → in_set tab c r es i ≡ true → least_progress tab c r es ≤ new_O tab c r es
    unfolding in_set
    set_reaches i h =
        let a = and_yes (at_rear tab c r (least_progress tab c r es) (get_or es i none)) _ h in
        let b = and_yes (class tab c r (get_or es i none) =? 0) ((numbers (get_or es i none)).progress =? least_progress tab c r es) a.0 in
        let e : (numbers (get_or es i none)).progress ≡ least_progress tab c r es = eqb-true _ _ b.1 in
        omega (arith, O_reaches es i (zero_counts (get_or es i none) b.0))

    by_back : c.B ≤ c.O → (o : Option ℕ) → Says (in_set tab c r es) (length es) o → (if found o then least_progress tab c r es else c.B) ≤ new_O tab c r es
    by_back l none s = omega (arith, O_rises es)
    by_back l (some i) s = set_reaches i s.passes

    pub B_within : c.B ≤ c.O → new_B tab c r es ≤ new_O tab c r es
    unfolding new_B back_runner
    B_within l = by_back l (lowest (in_set tab c r es) (length es)) (lowest_says (in_set tab c r es) (length es))

    pub B_rises : c.B ≤ new_B tab c r es
    unfolding new_B
    B_rises = if_cases (λ b. c.B ≤ b) (found (back_runner tab c r es)) _ c.B (λ e. least_past es) (λ e. omega arith)

    pub W_rises : c.W ≤ new_W tab c r es
    unfolding new_W
    W_rises = if_cases (λ w. c.W ≤ w) (found (back_runner tab c r es)) _ c.W (λ e. omega arith) (λ e. omega arith)

    pub W_within : new_W tab c r es ≤ max c.W (r + tab.timeout)
    unfolding new_W
    W_within =
        if_cases (λ w. w ≤ max c.W (r + tab.timeout)) (found (back_runner tab c r es)) _ c.W (λ e. omega (arith, largest_within (least_progress tab c r es) es)) (λ e. omega arith)
