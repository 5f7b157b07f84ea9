-- From what is told of a reading back to the reading: what was read and the bytes from the place that is told on, or a refusal that stays one
-- whatever was to follow.
use mathlib.Core.Path.{◌≡◌, sym, ap, ◌∙◌}
use mathlib.Core.Logic.{◌⊎◌, inl, inr}
use mathlib.Core.List.{List, ◌++◌}
use Prim.Native.Nat.{ℕ, ◌+◌, ◌-◌, ◌≤◌, ◌<◌}
use native.Mathlib.Omega.{arith}
use lib.ListN.{length, drop, length-drop, drop_of_length-le}
use lib.Seq.{drop-drop, drop-append_seam, drop-length}
use Rattle.laws.proofs.Tests.{lt_or_ge}
use Rattle.rules.specs.Answer.{Answer, done, refused}
use Rattle.rules.specs.Numbers.{Read, Reads, give}
use Rattle.rules.proofs.Reading.{Gives, so, stop, Took, Takes}
use Rattle.refusal.proofs.Answers.{done_same, done_refused, refused_same}
use Rattle.number.specs.Numbers.{told, placed}

-- the end of a list stands where its length says
pub end_at : {A : Type 0} (n : ℕ) (s : List A) → drop (length s - length (drop n s)) s ≡ drop n s
end_at {A} n s = by (lt_or_ge n (length s))
  where
    by : (n < length s) ⊎ (length s ≤ n) → drop (length s - length (drop n s)) s ≡ drop n s
    by (inl h) =
        let e : length s - length (drop n s) ≡ n = rw length-drop (omega arith) in
        rw e
    by (inr h) =
        let e : length s - 0 ≡ length s = omega arith in
        rw (drop_of_length-le s h, e) (drop-length s)

-- and so does the rest of a reading
pub rest_at : (s taken rest : List ℕ) (from : ℕ) → taken ++ rest ≡ drop from s → drop (length s - length rest) s ≡ rest
rest_at s taken rest from h =
    let e : drop (from + length taken) s ≡ rest = sym (drop-drop (length taken) from s) ∙ ap (drop (length taken)) (sym h) ∙ drop-append_seam taken rest in
    rw (← e) (end_at (from + length taken) s)

-- a reading from a place of s that was done: what it gave, and the place of s past it
pub record Done {A : Type 0} (s : List ℕ) (a : Answer (Read A)) (v : A) (next : ℕ) : Type 0 where
  pub is : a ≡ done (record { value = v; rest = drop next s })
  pub on : next ≤ length s

-- the same, of what is told of it in another form
pub record Gave {A B : Type 0} (form : A → B) (s : List ℕ) (a : Answer (Read A)) (y : B) (next : ℕ) : Type 0 where
  pub value : A
  pub was : Done s a value next
  pub same : form value ≡ y

module _ {A B : Type 0} (form : A → B) {rd : Reads A} (k : Takes rd) (s : List ℕ) (from : ℕ) where
  value_is : {a : Answer (Read A)} → Gives (Took rd (drop from s)) a → {y : B} {next : ℕ} → placed form s a ≡ done (y, next) → Gave form s a y next
  value_is (so {a = x} p) {y} {next} e =
      let n : length s - length x.rest ≡ next = ap (λ (p : B × ℕ). p.1) (done_same e) in
      let r : x.rest ≡ drop next s = sym (rw n at (rest_at s p.taken x.rest from p.whole)) in
      record { value = x.value; was = record { is = ap (λ (l : List ℕ). done (record { value = x.value; rest = l })) r; on = omega arith }; same = ap (λ (p : B × ℕ). p.0) (done_same e) }
  value_is stop {y} {next} e = absurd (done_refused (sym e))

  stop_is : {a : Answer (Read A)} → Gives (Took rd (drop from s)) a → {n : ℕ} → placed form s a ≡ refused n → a ≡ refused n
  stop_is (so p) e = absurd (done_refused e)
  stop_is stop e = ap refused (refused_same e)

  pub told_value : {y : B} {next : ℕ} → placed form s (rd (drop from s)) ≡ done (y, next) → Gave form s (rd (drop from s)) y next
  told_value = value_is (k.from (drop from s))

  pub told_stop : {n : ℕ} → placed form s (rd (drop from s)) ≡ refused n → rd (drop from s) ≡ refused n
  told_stop = stop_is (k.from (drop from s))

-- the place of what is left from there on
pub place_at : (s : List ℕ) (next : ℕ) → next ≤ length s → length s - length (drop next s) ≡ next
place_at s next h = rw length-drop (omega arith)

-- two ways of telling that can be told apart
pub record Tells {A B : Type 0} (value : A → ℕ → B) (stop : ℕ → B) : Type 0 where
  pub same_value : {x y : A} {m n : ℕ} → value x m ≡ value y n → x ≡ y
  pub same_place : {x y : A} {m n : ℕ} → value x m ≡ value y n → m ≡ n
  pub same_stop : {m n : ℕ} → stop m ≡ stop n → m ≡ n
  pub apart : {x : A} {m n : ℕ} → value x m ≡ stop n → ⊥

module _ {A B : Type 0} {value : A → ℕ → B} {halt : ℕ → B} (t : Tells value halt) {rd : Reads A} (k : Takes rd) (s : List ℕ) (from : ℕ) where
  tells_value_is : {a : Answer (Read A)} → Gives (Took rd (drop from s)) a → (v : A) (next : ℕ) → told value halt s a ≡ value v next → Done s a v next
  tells_value_is (so {a = x} p) v next e =
      let n : length s - length x.rest ≡ next = t.same_place e in
      let r : x.rest ≡ drop next s = sym (rw n at (rest_at s p.taken x.rest from p.whole)) in
      record { is = λ i. done (record { value = t.same_value e i; rest = r i }); on = omega arith }
  tells_value_is stop v next e = absurd (t.apart (sym e))

  tells_stop_is : {a : Answer (Read A)} → Gives (Took rd (drop from s)) a → {n : ℕ} → told value halt s a ≡ halt n → a ≡ refused n
  tells_stop_is (so p) e = absurd (t.apart e)
  tells_stop_is stop e = ap refused (t.same_stop e)

  pub tells_value : (v : A) (next : ℕ) → told value halt s (rd (drop from s)) ≡ value v next → Done s (rd (drop from s)) v next
  tells_value = tells_value_is (k.from (drop from s))

  pub tells_stop : {n : ℕ} → told value halt s (rd (drop from s)) ≡ halt n → rd (drop from s) ≡ refused n
  tells_stop = tells_stop_is (k.from (drop from s))

-- an answer with the place is such a way
pub answer_tells : {A : Type 0} → Tells {A = A} {B = Answer (A × ℕ)} (λ x next. done (x, next)) refused
answer_tells = record {
  same_value = λ {x} {y} {m} {n} e. ap (λ p. p.0) (done_same e);
  same_place = λ {x} {y} {m} {n} e. ap (λ p. p.1) (done_same e);
  same_stop = λ {m} {n} e. refused_same e;
  apart = λ {x} {m} {n} e. done_refused e;
}

-- what is told of what was given at a place of s
pub told_done : {A B : Type 0} (value : A → ℕ → B) (halt : ℕ → B) (s : List ℕ) (v : A) (next : ℕ) → next ≤ length s → told value halt s (give v (drop next s)) ≡ value v next
told_done value halt s v next h =
    let e : length s - length (drop next s) ≡ next = rw length-drop (omega arith) in
    rw e
