-- What was put is read again: the words of a list are read as that list, and stored over the first words of a lent list they are read as that list over what
-- stood there.
use mathlib.Core.Path.{◌≡◌, refl, sym, ap, ◌∙◌}
use mathlib.Core.Bool.{false, not}
use mathlib.Core.Option.{Option, none, some}
use mathlib.Core.List.{List, [], ◌∷◌, ◌++◌, append_assoc, append-nil}
use Prim.Native.Nat.{ℕ, zero, suc, ◌+◌, ◌-◌, ◌*◌, ◌/◌, ◌%◌, ◌≤◌, ◌<◌}
use native.Mathlib.Omega.{arith}
use borrow.Author.Tests.{eq-eqb, eqb-true, not-false}
use lib.ListN.{length, drop, get_or, length-append, length-drop}
use lib.Seq.{get_or-drop}
use Rattle.laws.specs.Tests.{◌<?◌, ◌=?◌}
use Rattle.laws.specs.Lists.{rows, over}
use Rattle.laws.proofs.Lists.{length_rows}
use Rattle.laws.proofs.Search.{none_found, find_none}
use Rattle.rules.specs.Answer.{done}
use Rattle.rules.specs.Judge as rules
use Rattle.rules.proofs.Answers.{passed, same_done}
use Rattle.lists.specs.Lists.{release_at, releases_at, entry_of, entry_at, above_one, wrong_mark, entries_at, words_of_release, release_words, words_of_entry, entry_words}
use Rattle.lists.proofs.Putting.{length_joined, two_each, four_each}
use Rattle.lists.proofs.Steps.{past, read_all, read_over}

-- stored over the first words, a list leaves the length
length_over : (ws lent : List ℕ) → length ws ≤ length lent → length (over ws lent) ≡ length lent
length_over ws lent h = rw (length-append, length-drop) (omega arith)

-- a word of what is behind the first ones
word : (ws : List ℕ) (j i k : ℕ) → j + i ≡ k → get_or (drop j ws) i 0 ≡ get_or ws k 0
word ws j i k e = get_or-drop j ws i 0 ∙ ap (λ k. get_or ws k 0) e

release_steady : (n : ℕ) (ws : List ℕ) (i : ℕ) → release_at (drop (2 * n) ws) i ≡ release_at ws (n + i)
release_steady n ws i =
    let t = word ws (2 * n) (2 * i) (2 * (n + i)) (omega arith) in
    let d = word ws (2 * n) (2 * i + 1) (2 * (n + i) + 1) (omega arith) in
    λ j. record { task_of = t j; delay = d j }

releases_read : (ws : List ℕ) → length ws % 2 ≡ 0 → releases_at ws ≡ done (rows (release_at ws) (length ws / 2))
unfolding releases_at
releases_read ws h = rw (eq-eqb (length ws % 2) 0 h)

releases_were : (ws : List ℕ) {ys : List rules.Release} → releases_at ws ≡ done ys → (length ws % 2 ≡ 0) × (rows (release_at ws) (length ws / 2) ≡ ys)
unfolding releases_at
releases_were ws h =
    let p = passed 100 (not (length ws % 2 =? 0)) h in
    (eqb-true (length ws % 2) 0 (not-false (length ws % 2 =? 0) p.0), same_done p.1)

-- the words of releases are read as those releases
pub releases_again : (xs : List rules.Release) → releases_at (release_words xs) ≡ done xs
releases_again xs =
    let l : length (release_words xs) ≡ 2 * length xs = length_joined words_of_release 2 two_each xs in
    let n : length (release_words xs) / 2 ≡ length xs = omega arith in
    releases_read (release_words xs) (omega arith)
    ∙ ap done (ap (rows (release_at (release_words xs))) n ∙ read_all words_of_release 2 two_each release_at release_steady (λ x ws. refl) xs)

-- and over a lent list they are read as those releases over what stood there
pub releases_over :
    (xs : List rules.Release) (lent : List ℕ) {ys : List rules.Release} → releases_at lent ≡ done ys → length xs ≤ length ys →
    releases_at (over (release_words xs) lent) ≡ done (over xs ys)
releases_over xs lent {ys} h k =
    let w = releases_were lent h in
    let n : length ys ≡ length lent / 2 = ap length (sym w.1) ∙ length_rows (release_at lent) (length lent / 2) in
    let o : length (over (release_words xs) lent) ≡ length lent = length_over (release_words xs) lent (omega (arith, length_joined words_of_release 2 two_each xs)) in
    releases_read (over (release_words xs) lent) (rw o w.0)
    ∙ ap done (ap (λ (m : ℕ). rows (release_at (over (release_words xs) lent)) (m / 2)) o
    ∙ read_over words_of_release 2 two_each release_at release_steady (λ x ws. refl) xs lent (length lent / 2) (omega arith) ∙ ap (over xs) w.1)

entry_steady : (n : ℕ) (ws : List ℕ) (i : ℕ) → entry_at (drop (4 * n) ws) i ≡ entry_at ws (n + i)
entry_steady n ws i =
    let mark = word ws (4 * n) (4 * i) (4 * (n + i)) (omega arith) in
    let p = word ws (4 * n) (4 * i + 1) (4 * (n + i) + 1) (omega arith) in
    let t = word ws (4 * n) (4 * i + 2) (4 * (n + i) + 2) (omega arith) in
    let u = word ws (4 * n) (4 * i + 3) (4 * (n + i) + 3) (omega arith) in
    λ j. entry_of (mark j) (p j) (t j) (u j)

entry_here : (e : Option rules.Report) (ws : List ℕ) → entry_at (words_of_entry e ++ ws) 0 ≡ e
entry_here none ws = refl
entry_here (some e) ws = refl

mark_steady : (n : ℕ) (ws : List ℕ) (i : ℕ) → above_one (drop (4 * n) ws) i ≡ above_one ws (n + i)
mark_steady n ws i = ap (λ k. 1 <? k) (word ws (4 * n) (4 * i) (4 * (n + i)) (omega arith))

mark_here : (e : Option rules.Report) (ws : List ℕ) → above_one (words_of_entry e ++ ws) 0 ≡ false
mark_here none ws = refl
mark_here (some e) ws = refl

-- entries that were put have no mark above 1, and neither has what follows them
marks_fine : (es : List (Option rules.Report)) (rest : List ℕ) (k : ℕ) → ((i : ℕ) → i < k → above_one rest i ≡ false)
    → (i : ℕ) → i < length es + k → above_one (entry_words es ++ rest) i ≡ false
marks_fine [] rest k h i l = h i (omega arith)
marks_fine (e ∷ es) rest k h zero l = ap (λ (ws : List ℕ). above_one ws 0) (append_assoc (words_of_entry e) (entry_words es) rest) ∙ mark_here e (entry_words es ++ rest)
marks_fine (e ∷ es) rest k h (suc i) l =
    ap (λ (ws : List ℕ). above_one ws (suc i)) (append_assoc (words_of_entry e) (entry_words es) rest)
    ∙ past words_of_entry 4 four_each above_one mark_steady e (entry_words es ++ rest) i
    ∙ marks_fine es rest k h i (omega arith)

-- words of entries that are refused neither 100 nor 103
record Right (ws : List ℕ) : Type 0 where
  fours : length ws % 4 ≡ 0
  marks : (i : ℕ) → i < length ws / 4 → above_one ws i ≡ false

entries_read : (ws : List ℕ) → Right ws → entries_at ws ≡ done (rows (entry_at ws) (length ws / 4))
unfolding entries_at wrong_mark
entries_read ws h = rw (eq-eqb (length ws % 4) 0 h.fours, find_none (above_one ws) (length ws / 4) h.marks)

entries_were : (ws : List ℕ) {ys : List (Option rules.Report)} → entries_at ws ≡ done ys → Right ws × (rows (entry_at ws) (length ws / 4) ≡ ys)
unfolding entries_at wrong_mark
entries_were ws h =
    let p = passed 100 (not (length ws % 4 =? 0)) h in
    let q = passed 103 (wrong_mark ws) p.1 in
    (record { fours = eqb-true (length ws % 4) 0 (not-false (length ws % 4 =? 0) p.0); marks = none_found (above_one ws) (length ws / 4) q.0 }, same_done q.1)

-- the same of entries
pub entries_again : (es : List (Option rules.Report)) → entries_at (entry_words es) ≡ done es
entries_again es =
    let l : length (entry_words es) ≡ 4 * length es = length_joined words_of_entry 4 four_each es in
    let n : length (entry_words es) / 4 ≡ length es = omega arith in
    let m : (i : ℕ) → i < length (entry_words es) / 4 → above_one (entry_words es) i ≡ false =
    λ i h. ap (λ (ws : List ℕ). above_one ws i) (sym (append-nil (entry_words es))) ∙ marks_fine es [] 0 (λ j z. absurd (omega arith)) i (omega arith) in
    entries_read (entry_words es) (record { fours = omega arith; marks = m })
    ∙ ap done (ap (rows (entry_at (entry_words es))) n ∙ read_all words_of_entry 4 four_each entry_at entry_steady entry_here es)

pub entries_over :
    (es : List (Option rules.Report)) (lent : List ℕ) {ys : List (Option rules.Report)} → entries_at lent ≡ done ys → length es ≤ length ys →
    entries_at (over (entry_words es) lent) ≡ done (over es ys)
entries_over es lent {ys} h k =
    let w = entries_were lent h in
    let n : length ys ≡ length lent / 4 = ap length (sym w.1) ∙ length_rows (entry_at lent) (length lent / 4) in
    let j : length (entry_words es) ≡ 4 * length es = length_joined words_of_entry 4 four_each es in
    let o : length (over (entry_words es) lent) ≡ length lent = length_over (entry_words es) lent (omega arith) in
    let rest : (i : ℕ) → i < length lent / 4 - length es → above_one (drop (length (entry_words es)) lent) i ≡ false =
    λ i l. ap (λ (a : ℕ). above_one (drop a lent) i) j ∙ mark_steady (length es) lent i ∙ w.0.marks (length es + i) (omega arith) in
    let m : (i : ℕ) → i < length (over (entry_words es) lent) / 4 → above_one (over (entry_words es) lent) i ≡ false =
    λ i l. marks_fine es (drop (length (entry_words es)) lent) (length lent / 4 - length es) rest i (omega arith) in
    entries_read (over (entry_words es) lent) (record { fours = rw o w.0.fours; marks = m })
    ∙ ap done (ap (λ (m : ℕ). rows (entry_at (over (entry_words es) lent)) (m / 4)) o
    ∙ read_over words_of_entry 4 four_each entry_at entry_steady entry_here es lent (length lent / 4) (omega arith) ∙ ap (over es) w.1)
