-- A list behind its count, from what is told of its reading in the form that its elements have here.
use mathlib.Core.Path.{◌≡◌, refl, sym, ap, ◌∙◌}
use mathlib.Core.List.{List, [], ◌∷◌, ◌++◌, map}
use Prim.Native.Nat.{ℕ, zero, suc, ◌-◌, ◌≤◌}
use native.Mathlib.Omega.{arith}
use lib.ListN.{length, drop, replicate, length-map}
use Rattle.std.proofs.lemmas.List.{drop-replicate}
use Rattle.laws.specs.Lists.{over, pad}
use Rattle.laws.proofs.Lists.{length_pad}
use Rattle.rules.specs.Answer.{Answer, done, refused, refused_by}
use Rattle.rules.specs.Numbers.{Read, Reads, after}
use Rattle.rules.specs.Written.{times}
use Rattle.rules.proofs.Reading.{Gives, so, stop, gives_after, Takes, then_takes, times_takes}
use Rattle.number.specs.Numbers.{placed}
use Rattle.number.proofs.Told.{Done, told_value, told_stop}
use Rattle.reader.specs.Formed.{formed, in_form}
use Rattle.reader.specs.Records.{count_in, list_in}
use Rattle.reader.proofs.Counts.{count_takes, counts, times_many}

over_pad : {A : Type 0} (n : ℕ) (blank : A) (xs : List A) → over xs (pad n blank []) ≡ pad n blank xs
unfolding pad
over_pad n blank xs =
    let e : n - 0 - length xs ≡ n - length xs = omega arith in
    ap (λ l. xs ++ l) (drop-replicate (length xs) (n - 0) blank ∙ ap (λ k. replicate k blank) e)

-- element by element, and as a list
times_formed : {A B : Type 0} (form : A → B) (rd : Reads A) (n : ℕ) (s : List ℕ) → times n (in_form form rd) s ≡ formed (map form) (times n rd s)
unfolding times
times_formed form rd zero s = refl
times_formed {A = A} {B = B} form rd (suc n) s = by (λ t. times_formed form rd n t) (rd s)
  where
    behind : (x : A) (a : Answer (Read (List A))) → after (formed (map form) a) (λ ys t. done (record { value = form x ∷ ys; rest = t }))
        ≡ formed (map form) (after a (λ xs t. done (record { value = x ∷ xs; rest = t })))
    behind x (done xs) = refl
    behind x (refused n) = refl
    behind x (refused_by n i) = refl

    by : ((t : List ℕ) → times n (in_form form rd) t ≡ formed (map form) (times n rd t)) → (a : Answer (Read A)) → after (formed form a) (λ y t. after (times n (in_form form rd) t) (λ ys t. done (record { value = y ∷ ys; rest = t })))
        ≡ formed (map form) (after a (λ x t. after (times n rd t) (λ xs t. done (record { value = x ∷ xs; rest = t }))))
    by rec (done x) = ap (λ a. after a (λ ys t. done (record { value = form x.value ∷ ys; rest = t }))) (rec x.rest) ∙ behind x.value (times n rd x.rest)
    by rec (refused m) = refl
    by rec (refused_by m i) = refl

list_formed : {A B : Type 0} (form : A → B) (rd : Reads A) (limit room : ℕ) (s : List ℕ) → list_in limit room (in_form form rd) s ≡ formed (map form) (list_in limit room rd s)
list_formed form rd limit room s = by (count_in limit room s)
  where
    by : (a : Answer (Read ℕ)) → after a (λ n. times n (in_form form rd)) ≡ formed (map form) (after a (λ n. times n rd))
    by (done n) = times_formed form rd n.value n.rest
    by (refused n) = refl
    by (refused_by n i) = refl

placed_formed : {A B C : Type 0} (form : A → B) (value : B → C) (s : List ℕ) (a : Answer (Read A)) → placed value s (formed form a) ≡ placed (λ x. value (form x)) s a
placed_formed form value s (done x) = refl
placed_formed form value s (refused n) = refl
placed_formed form value s (refused_by n i) = refl

-- a list is within its limit
list_few : {A : Type 0} (limit room : ℕ) {rd : Reads A} → Takes rd → (s : List ℕ) → Gives (λ (x : Read (List A)). length x.value ≤ limit) (list_in limit room rd s)
list_few {A = A} limit room k s = gives_after _ (counts limit room s) λ n c. gives_after' c.few (times_many n.value k n.rest)
  where
    gives_after' : {m : ℕ} {a : Answer (Read (List A))} → m ≤ limit → Gives (λ (x : Read (List A)). length x.value ≡ m) a → Gives (λ (x : Read (List A)). length x.value ≤ limit) a
    gives_after' h (so e) = so (omega arith)
    gives_after' h stop = stop

-- what was read, and what stands in the lent list
pub record Has {A B : Type 0} (form : A → B) (rd : Reads A) (limit room : ℕ) (blank : B) (s : List ℕ) (at : ℕ) (left : List B) (many next : ℕ) : Type 0 where
  pub xs : List A
  pub was : Done s (list_in limit room rd (drop at s)) xs next
  pub many_is : length xs ≡ many
  pub holds : left ≡ pad limit blank (map form xs)

module _ {A B : Type 0} (form : A → B) {rd : Reads A} (k : Takes rd) (limit room : ℕ) (blank : B) (s : List ℕ) (at : ℕ) where
  list_takes : Takes (list_in limit room rd)
  list_takes = then_takes (count_takes limit room) (λ n. times_takes n k)

  module _ {lent : List B} (e : lent ≡ pad limit blank []) where
    long : length lent ≡ limit
    long = ap length e ∙ length_pad limit blank [] (omega arith)

    -- the same of the list as it is read here
    told_here : placed length s (list_in (length lent) room (in_form form rd) (drop at s)) ≡ placed (λ xs. length (map form xs)) s (list_in limit room rd (drop at s))
    told_here = rw (long, list_formed form rd limit room (drop at s)) (placed_formed (map form) length s (list_in limit room rd (drop at s)))

    pub list_bad : {n : ℕ} → refused n ≡ placed length s (list_in (length lent) room (in_form form rd) (drop at s)) → list_in limit room rd (drop at s) ≡ refused n
    list_bad p = told_stop (λ xs. length (map form xs)) list_takes s at (sym (p ∙ told_here))

    pub list_has : {many next : ℕ} {left : List B} → done (many, next) ≡ placed length s (list_in (length lent) room (in_form form rd) (drop at s))
        → ((x : Read (List B)) → list_in (length lent) room (in_form form rd) (drop at s) ≡ done x → left ≡ over x.value lent) → Has form rd limit room blank s at left many next
    list_has {many} {next} {left} p q =
        let t = told_value (λ xs. length (map form xs)) list_takes s at (sym (p ∙ told_here)) in
        let f : list_in (length lent) room (in_form form rd) (drop at s) ≡ done (record { value = map form t.value; rest = drop next s }) =
        ap (λ n. list_in n room (in_form form rd) (drop at s)) long ∙ list_formed form rd limit room (drop at s) ∙ ap (formed (map form)) t.was.is in
        record {
          xs = t.value;
          was = t.was;
          many_is = sym (length-map t.value form) ∙ t.same;
          holds = q (record { value = map form t.value; rest = drop next s }) f ∙ ap (over (map form t.value)) e ∙ over_pad limit blank (map form t.value);
        }
