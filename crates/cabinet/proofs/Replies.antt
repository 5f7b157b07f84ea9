-- What a door says and leaves, by what the call beside it answered: a value in another form, or a refusal without the task that it may name.
use mathlib.Core.Path.{◌≡◌, refl, sym, ap, ◌∙◌}
use mathlib.Core.List.{List, ◌++◌, append-nil}
use Prim.Native.Nat.{ℕ}
use native.Mathlib.Omega.{arith}
use lib.ListN.{length, drop_of_length-le}
use lib.Seq.{sets}
use Rattle.laws.proofs.Runs.{sets_front}
use Rattle.rules.specs.Answer.{Answer, done, refused, refused_by}
use Rattle.refusal.specs.Refusal.{told_as}
use Rattle.refusal.proofs.Answers.{done_same, done_refused}
use Rattle.cabinet.specs.Replies.{left}

-- the same told on
pub retold : {A B C : Type 0} (form : A → B) (f : B → C) (a : Answer A) {r : Answer B} → r ≡ told_as form a → told_as f r ≡ told_as (λ x. f (form x)) a
retold form f (done x) e = ap (told_as f) e
retold form f (refused n) e = ap (told_as f) e
retold form f (refused_by n i) e = ap (told_as f) e

module _ {A B : Type 0} (form : A → B) where
  -- what was lent stays, or is written anew
  pub kept : (anew : A → List ℕ) (lent : List ℕ) (a : Answer A) {n : ℕ} → refused n ≡ told_as form a → lent ≡ left anew lent a
  kept anew lent (done x) e = absurd (done_refused (sym e))
  kept anew lent (refused n) e = refl
  kept anew lent (refused_by n i) e = refl

  pub put : (anew : B → List ℕ) (lent : List ℕ) (a : Answer A) {x : B} → done x ≡ told_as form a → anew x ≡ left (λ k. anew (form k)) lent a
  put anew lent (done k) e = ap anew (done_same e)
  put anew lent (refused n) e = absurd (done_refused e)
  put anew lent (refused_by n i) e = absurd (done_refused e)

-- a lent array written whole
pub written_whole : (lent words : List ℕ) {after : List ℕ} → length lent ≡ length words → after ≡ sets lent 0 words → after ≡ words
written_whole lent words h p =
    p ∙ sets_front words lent (omega arith) ∙ ap (λ (rest : List ℕ). words ++ rest) (drop_of_length-le lent {i = length words} (omega arith)) ∙ append-nil words
