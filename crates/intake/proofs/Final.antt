-- A reading of the bytes that have come so far: every answer but 18 stays the same whatever bytes follow, and 18 is given of few bytes only.
-- So a program that keeps a window of the input waits for more at 18 and at nothing else, and its window never fills up.
use Rattle.std.specs.Prelude.{if◌then◌else◌}
use mathlib.Core.Path.{◌≡◌, refl}
use mathlib.Core.Logic.{◌⊎◌, inl, inr, ⊎_elim}
use mathlib.Core.Bool.{Bool, true, false, not, ◌&&◌}
use mathlib.Core.Option.{Option, none, some}
use mathlib.Core.List.{List, [], ◌∷◌, ◌++◌}
use Prim.Native.Nat.{ℕ, zero, suc, ◌+◌, ◌-◌, ◌*◌, ◌≤◌, ◌<◌}
use native.Mathlib.Nat.{mul-le-mul_right, suc-mul}
use native.Mathlib.Omega.{arith}
use borrow.Author.Tests.{ltb-false, eqb-false}
use lib.ListN.{length}
use Rattle.laws.specs.Tests.{◌<?◌, ◌=?◌}
use Rattle.laws.specs.Search.{lowest}
use Rattle.laws.proofs.Tests.{lt_or_ge, none_of}
use Rattle.rules.specs.Answer.{Answer, done, refused, refused_by, refuse◌if◌else◌, refuse◌naming◌else◌}
use Rattle.rules.specs.Table as rules
use Rattle.rules.specs.Numbers.{Read, Reads, ◌>>=◌, after, give, groups_after, number}
use Rattle.rules.specs.Written.{times, counted, read_release, read_report, read_entry, read_record}
use Rattle.rules.specs.Session.{read_task, read_table}
use Rattle.intake.specs.Table.{answered, under, checked_tasks, counted_tasks}
use Rattle.intake.proofs.Parts.{two_then, table_parts}

-- what is read of s stays so with t behind it
abbrev pub Same : {A : Type 0} → Answer (Read A) → List ℕ → Answer (Read A) → Type 0
Same (done x) t b = b ≡ done (record { value = x.value; rest = x.rest ++ t })
Same (refused n) t b = (n ≡ 18) ⊎ (b ≡ refused n)
Same (refused_by n i) t b = b ≡ refused_by n i

-- 18 says that there were fewer than so many bytes; no more than so many are ever used
abbrev pub Short : {A : Type 0} → ℕ → List ℕ → Answer (Read A) → Type 0
Short most s (done x) = length s ≤ most + length x.rest
Short most s (refused n) = n ≡ 18 → length s < most
Short most s (refused_by n i) = n ≡ 18 → length s < most

pub record Window {A : Type 0} (most : ℕ) (rd : Reads A) : Type 0 where
  pub stays : (s t : List ℕ) → Same (rd s) t (rd (s ++ t))
  pub short : (s : List ℕ) → Short most s (rd s)

pub give_window : {A : Type 0} {a : A} → Window 0 (give a)
give_window = record { stays = λ s t. refl; short = λ s. omega arith }

refused_window : {A : Type 0} (n : ℕ) → (n ≡ 18 → ⊥) → Window {A = A} 0 (λ s. refused n)
refused_window n d = record { stays = λ s t. inr refl; short = λ s e. absurd (d e) }

short_more : {A : Type 0} {m n : ℕ} (s : List ℕ) (a : Answer (Read A)) → m ≤ n → Short m s a → Short n s a
short_more s (done x) h p = omega arith
short_more s (refused k) h p = λ e. let q = p e in omega arith
short_more s (refused_by k i) h p = λ e. let q = p e in omega arith

more_window : {A : Type 0} {m n : ℕ} {rd : Reads A} → m ≤ n → Window m rd → Window n rd
more_window {rd = rd} h w = record { stays = w.stays; short = λ s. short_more s (rd s) h (w.short s) }

module _ {A B : Type 0} (f : A → Reads B) where
  same_after : (a : Answer (Read A)) (t : List ℕ) (b : Answer (Read A)) → Same a t b → ((x : A) (s : List ℕ) → Same (f x s) t (f x (s ++ t))) → Same (after a f) t (after b f)
  same_after (done x) t b p h = rw p (h x.value x.rest)
  same_after (refused n) t b (inl e) h = inl e
  same_after (refused n) t b (inr e) h = inr (rw e)
  same_after (refused_by n i) t b p h = rw p

  short_after : (m n : ℕ) (s : List ℕ) (a : Answer (Read A)) → Short m s a → ((x : A) (s : List ℕ) → Short n s (f x s)) → Short (m + n) s (after a f)
  short_after m n s (done x) p h = by (f x.value x.rest) (h x.value x.rest)
    where
      by : (b : Answer (Read B)) → Short n x.rest b → Short (m + n) s b
      by (done y) q = omega arith
      by (refused k) q = λ e. let r = q e in omega arith
      by (refused_by k i) q = λ e. let r = q e in omega arith
  short_after m n s (refused k) p h = λ e. let q = p e in omega arith
  short_after m n s (refused_by k i) p h = λ e. let q = p e in omega arith

pub then_window : {A B : Type 0} {m n : ℕ} {rd : Reads A} {f : A → Reads B} → Window m rd → ((x : A) → Window n (f x)) → Window (m + n) (rd >>= f)
then_window {m = m} {n = n} {rd = rd} {f = f} w h = record {
  stays = λ s t. same_after f (rd s) t (rd (s ++ t)) (w.stays s t) (λ x s. (h x).stays s t);
  short = λ s. short_after f m n s (rd s) (w.short s) (λ x s. (h x).short s);
}

if_window : {A : Type 0} {n : ℕ} (b : Bool) {f g : Reads A} → Window n f → Window n g → Window n (if b then f else g)
if_window true h k = h
if_window false h k = k

refuse_window : {A : Type 0} {n : ℕ} (k : ℕ) (b : Bool) {f : Reads A} → (k ≡ 18 → ⊥) → (b ≡ false → Window n f) → Window n (λ s. refuse k if b else f s)
refuse_window k true d h = record { stays = λ s t. inr refl; short = λ s e. absurd (d e) }
refuse_window k false d h = h refl

-- a number: at most nine groups, and at 18 eight at most with their top bit set
groups_stay : (k : ℕ) (s t : List ℕ) → Same (groups_after k s) t (groups_after k (s ++ t))
unfolding groups_after
groups_stay k [] t = inl refl
groups_stay k (b ∷ bs) t = by (b <? 128) ((0 <? k) && (b =? 0)) (k =? 8) (groups_stay (k + 1) bs t)
  where
    by : (p q r : Bool) → Same (groups_after (k + 1) bs) t (groups_after (k + 1) (bs ++ t))
        → Same (if p then (refuse 19 if q else give b bs) else refuse 19 if r else after (groups_after (k + 1) bs) (λ v. give (b - 128 + 128 * v))) t
        (if p then (refuse 19 if q else give b (bs ++ t)) else refuse 19 if r else after (groups_after (k + 1) (bs ++ t)) (λ v. give (b - 128 + 128 * v)))
    by true true r h = inr refl
    by true false r h = refl
    by false q true h = inr refl
    by false q false h = same_after (λ v. give (b - 128 + 128 * v)) (groups_after (k + 1) bs) t (groups_after (k + 1) (bs ++ t)) h (λ x s. refl)

group_short : (k b : ℕ) (bs : List ℕ) (a : Answer (Read ℕ)) → k < 8 → Short (9 - (k + 1)) bs a → Short (9 - k) (b ∷ bs) (after a (λ v. give (b - 128 + 128 * v)))
group_short k b bs (done x) l h = omega arith
group_short k b bs (refused n) l h = λ z. let g = h z in omega arith
group_short k b bs (refused_by n i) l h = λ z. let g = h z in omega arith

groups_short : (k : ℕ) (s : List ℕ) → k ≤ 8 → Short (9 - k) s (groups_after k s)
unfolding groups_after
groups_short k [] l = λ e. omega arith
groups_short k (b ∷ bs) l = by (b <? 128) ((0 <? k) && (b =? 0)) (k =? 8) refl (groups_short (k + 1) bs)
  where
    by : (p q r : Bool) → (k =? 8) ≡ r → (k + 1 ≤ 8 → Short (9 - (k + 1)) bs (groups_after (k + 1) bs))
        → Short (9 - k) (b ∷ bs) (if p then (refuse 19 if q else give b bs) else refuse 19 if r else after (groups_after (k + 1) bs) (λ v. give (b - 128 + 128 * v)))
    by true true r e h = λ z. absurd (omega arith)
    by true false r e h = omega arith
    by false q true e h = λ z. absurd (omega arith)
    by false q false e h =
        let d = eqb-false k 8 e in
        let m : k < 8 = ⊎_elim (λ (m : k < 8). m) (λ (m : 8 ≤ k). absurd (d (omega arith))) (lt_or_ge k 8) in
        group_short k b bs (groups_after (k + 1) bs) m (h (omega arith))

number_window : Window 9 number
number_window = record { stays = groups_stay 0; short = λ s. groups_short 0 s (omega arith) }

times_window : {A : Type 0} {m : ℕ} (n : ℕ) {rd : Reads A} → Window m rd → Window (n * m) (times n rd)
unfolding times
times_window zero h = more_window (omega arith) give_window
times_window {m = m} (suc n) h =
    let e : m + (n * m + 0) ≤ suc n * m = omega (arith, suc-mul n m) in
    more_window e (then_window h (λ x. then_window (times_window n h) (λ xs. give_window)))

few_window : {A : Type 0} {m : ℕ} (most n : ℕ) {rd : Reads A} → n ≤ most → Window m rd → Window (most * m) (times n rd)
few_window {m = m} most n h w = more_window (mul-le-mul_right m h) (times_window n w)

-- a record: "r, count of releases, (task, delay) each, count of entries, then per entry .."
release_window : Window 18 read_release
release_window = then_window number_window (λ i. then_window number_window (λ d. give_window))

report_window : Window 27 read_report
report_window = then_window number_window (λ p. then_window number_window (λ t. then_window number_window (λ u. give_window)))

entry_window : Window 36 read_entry
entry_window =
    then_window number_window λ mark.
    if_window (mark =? 0) (more_window (omega arith) give_window) (if_window (mark =? 1) report_window (more_window (omega arith) (refused_window 20 (λ e. omega arith))))

counted_window : {A : Type 0} {n : ℕ} (limit k : ℕ) (f : ℕ → Reads A) → ((k : ℕ) → k ≤ limit → Window n (f k)) → Window n (counted limit limit k >>= f)
counted_window {n = n} limit k f h = by (limit <? k) refl
  where
    by : (b : Bool) → (limit <? k) ≡ b → Window n (λ s. after (refuse 15 if b else refuse 21 if b else give k s) f)
    by true e = record { stays = λ s t. inr refl; short = λ s z. absurd (omega arith) }
    by false e = h k (ltb-false limit k e)

pub record_window : Window 1719 (read_record 64 15)
unfolding read_record
record_window =
    then_window number_window λ r. then_window number_window λ k. counted_window 64 k _ λ k' l. then_window (few_window 64 k' l release_window) λ xs.
    then_window number_window λ n. counted_window 15 n _ λ n' l. then_window (few_window 15 n' l entry_window) λ es. give_window

-- a table: "m, timeout, task count, the four numbers per task"
task_window : Window 36 read_task
task_window = then_window number_window λ C. then_window number_window λ T. then_window number_window λ D. then_window number_window λ S. give_window

check_window : (tab : rules.Table) → Window 0 (λ s. answered s (rules.check tab))
unfolding rules.check
check_window tab = by (rules.out_of_range tab.m tab.timeout (length tab.tasks)) (lowest (λ i. not (rules.keeps_rules tab i)) (length tab.tasks))
  where
    by : (b : Bool) (o : Option ℕ) → Window 0 (λ s. answered s (refuse 1 if b else refuse 2 naming o else done tab))
    by true o = record { stays = λ s t. inr refl; short = λ s z. absurd (omega arith) }
    by false none = give_window
    by false (some i) = record { stays = λ s t. refl; short = λ s z. absurd (omega arith) }

tasks_window : (m timeout count : ℕ) → count ≤ 64 → Window 2304 (checked_tasks m timeout count)
tasks_window m timeout count l = then_window (few_window 64 count l task_window) (λ tasks. check_window (under m timeout tasks))

counted_tasks_window : (m timeout : ℕ) → Window 2313 (counted_tasks m timeout)
unfolding rules.out_of_range
counted_tasks_window m timeout =
    then_window number_window λ count.
    refuse_window 1 (rules.out_of_range m timeout count) (λ z. omega arith) λ e. tasks_window m timeout count (ltb-false 64 count (none_of _ e 3))

table_two : Window 2331 (two_then counted_tasks)
table_two = then_window number_window λ m. then_window number_window λ timeout. counted_tasks_window m timeout

pub table_window : Window 2331 read_table
table_window = record {
  stays = λ s t. rw (table_parts s, table_parts (s ++ t)) (table_two.stays s t);
  short = λ s. rw (table_parts s) (table_two.short s);
}
