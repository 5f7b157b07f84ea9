-- A table is two numbers, the count with its refusal, and its tasks with theirs: the rules' own reading, grouped.
use mathlib.Core.Path.{◌≡◌, refl}
use mathlib.Core.Bool.{Bool, true, false}
use mathlib.Core.List.{List}
use Prim.Native.Nat.{ℕ}
use Rattle.rules.specs.Answer.{Answer, done, refused, refused_by, refuse◌if◌else◌}
use Rattle.rules.specs.Table as rules
use Rattle.rules.specs.Numbers.{Reads, ◌>>=◌, after, give, number}
use Rattle.rules.specs.Written.{times}
use Rattle.rules.specs.Session.{read_task, read_table}
use Rattle.number.proofs.After.{after_same}
use Rattle.intake.specs.Table.{under, checked_tasks, counted_tasks}

refuse_first : {A B : Type 0} (n : ℕ) (b : Bool) (x : A) (s : List ℕ) (f : A → Reads B) (g : Reads B) → f x s ≡ g s → after (refuse n if b else give x s) f ≡ refuse n if b else g s
refuse_first n true x s f g e = refl
refuse_first n false x s f g e = e

by_answer : {A X : Type 0} {l r : X} (a : Answer A) → ((t : A) → a ≡ done t → l ≡ r) → ((n : ℕ) → a ≡ refused n → l ≡ r) → ((n i : ℕ) → a ≡ refused_by n i → l ≡ r) → l ≡ r
by_answer (done t) f g h = f t refl
by_answer (refused n) f g h = g n refl
by_answer (refused_by n i) f g h = h n i refl

-- two numbers, and what follows them
abbrev pub two_then : {A : Type 0} → (ℕ → ℕ → Reads A) → Reads A
two_then f = number >>= λ a. number >>= λ b. f a b

pub table_parts : (s : List ℕ) → read_table s ≡ two_then counted_tasks s
unfolding read_table
table_parts s = after_same (number s) λ m s₁. after_same (number s₁) λ timeout s₂. after_same (number s₂) λ count s₃.
    refuse_first 1 (rules.out_of_range m timeout count) count s₃ _ (checked_tasks m timeout count)
    (after_same (times count read_task s₃) λ tasks s₄. by_answer (rules.check (under m timeout tasks)) (λ t e. rw e) (λ n e. rw e) (λ n i e. rw e))
