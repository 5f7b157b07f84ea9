-- A reading takes the first bytes and looks at no other: what is read from them is read from them before whatever follows.
-- From a number to a record, each from its parts; and a session's rounds end with its input.
use Rattle.std.specs.Prelude.{if◌then◌else◌}
use mathlib.Core.Path.{◌≡◌, refl, sym, ap, ◌∙◌}
use mathlib.Core.Bool.{Bool, true, false, ◌&&◌}
use mathlib.Core.List.{List, [], ◌∷◌, ◌++◌, append_assoc}
use Prim.Native.Nat.{ℕ, zero, suc, ◌+◌, ◌-◌, ◌*◌, ◌≤◌, ◌<◌}
use native.Mathlib.Omega.{arith}
use borrow.Author.Tests.{ne_eqb}
use lib.ListN.{length, take, length-append}
use Rattle.laws.specs.Tests.{◌<?◌, ◌=?◌}
use Rattle.rules.specs.Answer.{Answer, done, refused, refused_by, refuse◌if◌else◌}
use Rattle.rules.specs.Table.{Table}
use Rattle.rules.specs.Common.{Common}
use Rattle.rules.specs.Judge.{Round}
use Rattle.rules.specs.Close.{close}
use Rattle.rules.specs.Session.{Line, round, stopped, rounds}
use Rattle.rules.specs.Numbers.{Read, Reads, ◌>>=◌, after, give, groups_after, number}
use Rattle.rules.specs.Written.{times, counted, read_release, read_report, read_entry, read_record}
use Rattle.rules.proofs.Answers.{refused≢done}

-- what holds of an answer, if it is one; a refusal of these names no task
pub data Gives {A : Type 0} (P : A → Type 0) : Answer A → Type 0 where
  so : {a : A} → P a → Gives P (done a)
  stop : {n : ℕ} → Gives P (refused n)

pub gives_at : {A : Type 0} {P : A → Type 0} {a : A} → Gives P (done a) → P a
gives_at (so p) = p

pub gives_all : {A : Type 0} {P Q : A → Type 0} {a : Answer A} → Gives P a → ((x : A) → P x → Q x) → Gives Q a
gives_all (so {a = x} p) f = so (f x p)
gives_all stop f = stop

pub gives_after : {A B : Type 0} {P : Read A → Type 0} {Q : Read B → Type 0} {a : Answer (Read A)} (f : A → Reads B)
    → Gives P a → ((x : Read A) → P x → Gives Q (f x.value x.rest)) → Gives Q (after a f)
gives_after f (so {a = x} p) g = g x p
gives_after f stop g = stop

pub gives_refuse : {A : Type 0} {P : A → Type 0} (k : ℕ) (t : Bool) {a : Answer A} → (t ≡ false → Gives P a) → Gives P (refuse k if t else a)
gives_refuse k true g = stop
gives_refuse k false g = g refl

pub gives_if : {A : Type 0} {P : A → Type 0} (t : Bool) {a b : Answer A} → (t ≡ true → Gives P a) → (t ≡ false → Gives P b) → Gives P (if t then a else b)
gives_if true f g = f refl
gives_if false f g = g refl

-- the bytes that a reading took, and that it reads the same from them before any others
pub record Took {A : Type 0} (rd : Reads A) (s : List ℕ) (x : Read A) : Type 0 where
  pub taken : List ℕ
  pub whole : taken ++ x.rest ≡ s
  pub alone : (t : List ℕ) → rd (taken ++ t) ≡ give x.value t

pub record Takes {A : Type 0} (rd : Reads A) : Type 0 where
  pub from : (s : List ℕ) → Gives (Took rd s) (rd s)

pub give_takes : {A : Type 0} {a : A} → Takes (give a)
give_takes = record { from = λ s. so (record { taken = []; whole = refl; alone = λ t. refl }) }

pub then_takes : {A B : Type 0} {rd : Reads A} {f : A → Reads B} → Takes rd → ((x : A) → Takes (f x)) → Takes (rd >>= f)
then_takes {A} {B} {rd} {f} h g = record { from = λ s. gives_after f (h.from s) λ x p. gives_all ((g x.value).from x.rest) (both s x p) }
  where
    both : (s : List ℕ) (x : Read A) → Took rd s x → (y : Read B) → Took (f x.value) x.rest y → Took (rd >>= f) s y
    both s x p y q = record {
      taken = p.taken ++ q.taken;
      whole = append_assoc p.taken q.taken y.rest ∙ ap (λ (l : List ℕ). p.taken ++ l) q.whole ∙ p.whole;
      alone = λ t. ap (rd >>= f) (append_assoc p.taken q.taken t) ∙ ap (λ a. after a f) (p.alone (q.taken ++ t)) ∙ q.alone t;
    }

if_takes : {A : Type 0} (b : Bool) {f g : Reads A} → Takes f → Takes g → Takes (if b then f else g)
if_takes true h k = h
if_takes false h k = k

refuse_takes : {A : Type 0} (n : ℕ) (b : Bool) {f : Reads A} → Takes f → Takes (λ s. refuse n if b else f s)
refuse_takes n true h = record { from = λ s. stop }
refuse_takes n false h = h

-- one group, then what follows it
last_took : (k b : ℕ) (bs : List ℕ) → (b <? 128) ≡ true → ((0 <? k) && (b =? 0)) ≡ false → Took (groups_after k) (b ∷ bs) (record { value = b; rest = bs })
unfolding groups_after
last_took k b bs e u = record { taken = b ∷ []; whole = refl; alone = λ t. rw (e, u) }

more_took : (k b : ℕ) (bs : List ℕ) (y : Read ℕ) → (b <? 128) ≡ false → (k =? 8) ≡ false → Took (groups_after (k + 1)) bs y
    → Took (groups_after k) (b ∷ bs) (record { value = b - 128 + 128 * y.value; rest = y.rest })
unfolding groups_after
more_took k b bs y e u p = record { taken = b ∷ p.taken; whole = ap (λ (l : List ℕ). b ∷ l) p.whole; alone = λ t. rw (e, u, p.alone t) }

groups_took : (k : ℕ) (s : List ℕ) → Gives (Took (groups_after k) s) (groups_after k s)
unfolding groups_after
groups_took k [] = stop
groups_took k (b ∷ bs) =
    gives_if (b <? 128)
    (λ e. gives_refuse 19 ((0 <? k) && (b =? 0)) (λ u. so (last_took k b bs e u)))
    (λ e. gives_refuse 19 (k =? 8) (λ u. gives_after (λ v. give (b - 128 + 128 * v)) (groups_took (k + 1) bs) (λ y p. so (more_took k b bs y e u p))))

pub number_takes : Takes number
number_takes = record { from = groups_took 0 }

pub times_takes : {A : Type 0} (n : ℕ) {rd : Reads A} → Takes rd → Takes (times n rd)
unfolding times
times_takes zero h = give_takes
times_takes (suc n) h = then_takes h (λ x. then_takes (times_takes n h) (λ xs. give_takes))

pub counted_takes : (limit room n : ℕ) → Takes (counted limit room n)
counted_takes limit room n = refuse_takes 15 (limit <? n) (refuse_takes 21 (room <? n) give_takes)

pub release_takes : Takes read_release
release_takes = then_takes number_takes (λ i. then_takes number_takes (λ d. give_takes))

pub report_takes : Takes read_report
report_takes = then_takes number_takes (λ p. then_takes number_takes (λ t. then_takes number_takes (λ u. give_takes)))

pub entry_takes : Takes read_entry
entry_takes = then_takes number_takes (λ mark. if_takes (mark =? 0) give_takes (if_takes (mark =? 1) report_takes (record { from = λ s. stop })))

pub record_takes : (j k : ℕ) → Takes (read_record j k)
unfolding read_record
record_takes j k =
    then_takes number_takes λ r. then_takes number_takes λ n. then_takes (counted_takes 64 j n) λ n'. then_takes (times_takes n' release_takes) λ xs.
    then_takes number_takes λ m. then_takes (counted_takes 15 k m) λ m'. then_takes (times_takes m' entry_takes) λ es. give_takes

-- what finds a fault in no bytes takes one at least
pub some_taken : {A : Type 0} (rd : Reads A) (n : ℕ) → rd [] ≡ refused n → (bs : List ℕ) {x : A} → rd (bs ++ []) ≡ give x [] → 1 ≤ length bs
some_taken rd n z [] e = refused≢done (sym z ∙ e)
some_taken rd n z (b ∷ bs) e = omega arith

record_eats : (j k : ℕ) (s : List ℕ) → Gives (λ (x : Read Round). length x.rest < length s) (read_record j k s)
unfolding read_record groups_after
record_eats j k s = gives_all ((record_takes j k).from s) λ x p.
    let l : length p.taken + length x.rest ≡ length s = sym (length-append p.taken x.rest) ∙ ap length p.whole in
    omega (arith, some_taken (read_record j k) 18 refl p.taken (p.alone []))

-- what follows a reading need agree only where it may stand
stopped_gives :
    {A : Type 0} {P : A → Type 0} (c : Common) {a : Answer A} (f g : A → List Line) → Gives P a → ((x : A) → P x → f x ≡ g x) →
    stopped c a f ≡ stopped c a g
stopped_gives c f g (so {a = x} p) e = e x p
stopped_gives c f g stop e = refl

stopped_same : {A : Type 0} (c : Common) (a : Answer A) (f g : A → List Line) → ((x : A) → f x ≡ g x) → stopped c a f ≡ stopped c a g
stopped_same c (done x) f g e = e x
stopped_same c (refused n) f g e = refl
stopped_same c (refused_by n i) f g e = refl

module _ (tab : Table) where
  -- the bound on the number of rounds that the session's definition carries is never met, where it is as long as the input
  pub bound_idle : (b₁ b₂ : List ℕ) (c : Common) (s : List ℕ) → length s ≤ length b₁ → length s ≤ length b₂ → rounds tab b₁ c s ≡ rounds tab b₂ c s
  unfolding rounds
  bound_idle [] [] c s l m = refl
  bound_idle [] (y ∷ b₂) c [] l m = refl
  bound_idle [] (y ∷ b₂) c (b ∷ bs) l m = absurd (omega arith)
  bound_idle (x ∷ b₁) [] c [] l m = refl
  bound_idle (x ∷ b₁) [] c (b ∷ bs) l m = absurd (omega arith)
  bound_idle (x ∷ b₁) (y ∷ b₂) c [] l m = refl
  bound_idle (x ∷ b₁) (y ∷ b₂) c (b ∷ bs) l m =
      rw (ne_eqb (suc (length bs)) 0 (λ e. omega arith))
      (stopped_gives c _ _ (record_eats 64 15 (b ∷ bs)) (λ q h. stopped_same c (close tab c q.value) _ _ (λ k.
      ap (λ (ls : List Line). round q.value.r k.common (take tab.m k.reply.classes) ∷ ls)
      (bound_idle b₁ b₂ k.common q.rest (omega arith) (omega arith)))))
