-- The words of a table are a written form of it: what is accepted is checked and is written back as it stood, and what is written is accepted.
use mathlib.Core.Path.{◌≡◌, refl, sym, ap, subst, ◌∙◌}
use mathlib.Core.Bool.{Bool, true, false, not, false≢true}
use mathlib.Core.List.{List, [], ◌∷◌, ◌++◌, append_assoc, append-nil}
use Prim.Native.Nat.{ℕ, ◌+◌, ◌<◌}
use native.Mathlib.Omega.{arith}
use borrow.Author.Tests.{eqb-true, eq-eqb, ne_eqb, not-false}
use lib.ListN.{length, take, drop, get_or, length-append, length-drop, take-append-drop, drop_of_length-le}
use lib.Seq.{sets, take_all, take_at, drop_at, drop-drop}
use Rattle.laws.specs.Tests.{◌=?◌}
use Rattle.laws.specs.Search.{lowest}
use Rattle.laws.proofs.Lists.{drop_here}
use Rattle.laws.proofs.Runs.{sets_append, sets_front}
use Rattle.rules.specs.Answer.{Answer, done, refused, refused_by}
use Rattle.rules.specs.Table as rules
use Rattle.rules.proofs.Answers.{same_done, passed, passed_naming}
use Rattle.table.specs.declared.Table.{Table}
use Rattle.table.specs.Table.{table_of, Checked}
use Rattle.table.proofs.Facts.{ranges}
use Rattle.words.specs.Table.{table_words, table_in, passes, table_at}

-- what the check lets pass is the table that it was given
check_same : (tab : rules.Table) {t : rules.Table} → rules.check tab ≡ done t → tab ≡ t
unfolding rules.check
check_same tab e = same_done (passed_naming 2 (lowest (λ i. not (rules.keeps_rules tab i)) (length tab.tasks)) (passed 1 (rules.out_of_range tab.m tab.timeout (length tab.tasks)) e).1).1

passes_checked : (t : Table) → passes (rules.check (table_of t)) ≡ true → Checked t
passes_checked t = by (rules.check (table_of t)) refl
  where
    by : (a : Answer rules.Table) → rules.check (table_of t) ≡ a → passes a ≡ true → Checked t
    by (done u) e h = record { passes = e ∙ ap done (sym (check_same (table_of t) e)) }
    by (refused n) e h = absurd (false≢true h)
    by (refused_by n i) e h = absurd (false≢true h)

-- the three answers
module _ (ws : List ℕ) where
  pub at_other_length : (length ws ≡ 259 → ⊥) → table_at ws ≡ refused 100
  unfolding table_at
  at_other_length h = rw (ne_eqb (length ws) 259 h)

  module _ (l : length ws ≡ 259) where
    pub at_broken : passes (rules.check (table_of (table_in ws))) ≡ false → table_at ws ≡ refused 101
    unfolding table_at
    at_broken h = rw (eq-eqb (length ws) 259 l, h)

    pub at_passed : Checked (table_in ws) → table_at ws ≡ done (table_in ws)
    unfolding table_at
    at_passed k = rw (eq-eqb (length ws) 259 l, k.passes)

    -- a count is never cut: none above 64 is accepted, however large
    pub at_many : 64 < get_or ws 2 0 → table_at ws ≡ refused 101
    at_many h = at_broken (by (passes (rules.check (table_of (table_in ws)))) refl)
      where
        by : (b : Bool) → passes (rules.check (table_of (table_in ws))) ≡ b → b ≡ false
        by true e = absurd (omega (arith, (ranges (passes_checked (table_in ws) e)).few))
        by false e = refl

-- what accepted words passed
record Accepted (ws : List ℕ) (t : Table) : Type 0 where
  long : length ws ≡ 259
  is : table_in ws ≡ t
  checked : Checked (table_in ws)

accepted : (ws : List ℕ) {t : Table} → table_at ws ≡ done t → Accepted ws t
unfolding table_at
accepted ws h =
    let p = passed 100 (not (length ws =? 259)) h in
    let q = passed 101 (not (passes (rules.check (table_of (table_in ws))))) p.1 in
    record {
      long = eqb-true (length ws) 259 (not-false (length ws =? 259) p.0);
      is = same_done q.1;
      checked = passes_checked (table_in ws) (not-false (passes (rules.check (table_of (table_in ws)))) q.0);
    }

pub at_checked : (ws : List ℕ) {t : Table} → table_at ws ≡ done t → Checked t
at_checked ws h = subst Checked (accepted ws h).is (accepted ws h).checked

-- 64 words and what stands behind them
stretch : (ws : List ℕ) (i : ℕ) → take 64 (drop i ws) ++ drop (i + 64) ws ≡ drop i ws
stretch ws i = ap (λ (r : List ℕ). take 64 (drop i ws) ++ r) (sym (drop-drop 64 i ws)) ∙ take-append-drop 64 (drop i ws)

in_words : (ws : List ℕ) → length ws ≡ 259 → table_words (table_in ws) ≡ ws
in_words ws l =
    let last : take 64 (drop 195 ws) ≡ drop 195 ws = take_all 64 (drop 195 ws) (rw length-drop (omega arith)) in
    let third : take 64 (drop 131 ws) ++ take 64 (drop 195 ws) ≡ drop 131 ws = ap (λ (r : List ℕ). take 64 (drop 131 ws) ++ r) last ∙ stretch ws 131 in
    let second : take 64 (drop 67 ws) ++ (take 64 (drop 131 ws) ++ take 64 (drop 195 ws)) ≡ drop 67 ws = ap (λ (r : List ℕ). take 64 (drop 67 ws) ++ r) third ∙ stretch ws 67 in
    ap (λ (r : List ℕ). get_or ws 0 0 ∷ get_or ws 1 0 ∷ get_or ws 2 0 ∷ r) (ap (λ (r : List ℕ). take 64 (drop 3 ws) ++ r) second ∙ stretch ws 3)
    ∙ ap (λ (r : List ℕ). get_or ws 0 0 ∷ get_or ws 1 0 ∷ r) (sym (drop_here ws 2 0 (omega arith) refl))
    ∙ ap (λ (r : List ℕ). get_or ws 0 0 ∷ r) (sym (drop_here ws 1 0 (omega arith) refl))
    ∙ sym (drop_here ws 0 0 (omega arith) refl)

pub at_words : (ws : List ℕ) {t : Table} → table_at ws ≡ done t → table_words t ≡ ws
at_words ws h = ap table_words (sym (accepted ws h).is) ∙ in_words ws (accepted ws h).long

-- a table as code has it: each array has 64 places
pub record Whole (t : Table) : Type 0 where
  pub longest : length t.longest ≡ 64
  pub distance : length t.distance ≡ 64
  pub deadline : length t.deadline ≡ 64
  pub slack : length t.slack ≡ 64

module _ {t : Table} (w : Whole t) where
  pub words_long : length (table_words t) ≡ 259
  words_long = simp length-append (omega (arith, w.longest, w.distance, w.deadline, w.slack))

  words_in : table_in (table_words t) ≡ t
  words_in =
      let from_D : List ℕ = t.deadline ++ t.slack in
      let from_T : List ℕ = t.distance ++ from_D in
      let rest : List ℕ = t.longest ++ from_T in
      let at_T : drop 64 rest ≡ from_T = drop_at t.longest from_T 64 w.longest in
      let at_D : drop 128 rest ≡ from_D = sym (drop-drop 64 64 rest) ∙ ap (drop 64) at_T ∙ drop_at t.distance from_D 64 w.distance in
      let at_S : drop 192 rest ≡ t.slack = sym (drop-drop 64 128 rest) ∙ ap (drop 64) at_D ∙ drop_at t.deadline t.slack 64 w.deadline in
      let longest : take 64 rest ≡ t.longest = take_at t.longest from_T 64 w.longest in
      let distance : take 64 (drop 64 rest) ≡ t.distance = ap (take 64) at_T ∙ take_at t.distance from_D 64 w.distance in
      let deadline : take 64 (drop 128 rest) ≡ t.deadline = ap (take 64) at_D ∙ take_at t.deadline t.slack 64 w.deadline in
      let slack : take 64 (drop 192 rest) ≡ t.slack = ap (take 64) at_S ∙ take_all 64 t.slack (omega (arith, w.slack)) in
      λ i. record {
        nodes = t.nodes;
        timeout = t.timeout;
        count = t.count;
        longest = longest i;
        distance = distance i;
        deadline = deadline i;
        slack = slack i;
      }

  pub words_at : Checked t → table_at (table_words t) ≡ done t
  words_at k = at_passed (table_words t) words_long (subst Checked (sym words_in) k) ∙ ap done words_in

  -- all words stored from the first on: the head, and two blocks at a time
  pub words_put : (ws : List ℕ) → length ws ≡ 259
      → sets (sets (sets ws 0 (t.nodes ∷ t.timeout ∷ t.count ∷ [])) 3 (t.longest ++ t.distance)) 131 (t.deadline ++ t.slack) ≡ table_words t
  words_put ws l =
      let head : List ℕ = sets ws 0 (t.nodes ∷ t.timeout ∷ t.count ∷ []) in
      let first : List ℕ = t.longest ++ t.distance in
      let second : List ℕ = t.deadline ++ t.slack in
      let end : 3 + length first ≡ 131 = simp length-append (omega (arith, w.longest, w.distance)) in
      let none_left : drop (length (table_words t)) ws ≡ [] = drop_of_length-le ws {i = length (table_words t)} (omega (arith, words_long)) in
      ap (λ (k : ℕ). sets (sets head 3 first) k second) (sym end)
      ∙ sym (sets_append head 3 first second)
      ∙ ap (sets head 3) (append_assoc t.longest t.distance second)
      ∙ sets_front (table_words t) ws (omega (arith, words_long))
      ∙ ap (λ (r : List ℕ). table_words t ++ r) none_left
      ∙ append-nil (table_words t)
