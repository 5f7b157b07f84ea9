-- What is written is read back, whatever follows it: a number, then a thing written as some numbers, a list of such things, a record.
use Rattle.std.specs.Prelude.{if◌then◌else◌}
use mathlib.Core.Path.{◌≡◌, refl, ◌∙◌, ap}
use mathlib.Core.Bool.{Bool, true, false, ◌&&◌}
use mathlib.Core.Option.{Option, none, some}
use mathlib.Core.List.{List, [], ◌∷◌, ◌++◌, foldr, append_assoc}
use Prim.Native.Nat.{ℕ, zero, suc, ◌+◌, ◌-◌, ◌*◌, ◌/◌, ◌%◌, ◌^◌, ◌≤◌, ◌<◌}
use native.Mathlib.Nat.{pow-suc}
use native.Mathlib.Omega.{arith}
use lib.ListN.{length}
use borrow.Author.Tests.{ltb-true, ltb-false, lt-ltb, le-ltb, ne_eqb, leb-false}
use Rattle.laws.specs.Tests.{◌<?◌, ◌≤?◌, ◌=?◌}
use Rattle.laws.proofs.Tests.{or_no}
use Rattle.rules.specs.Answer.{refuse◌if◌else◌}
use Rattle.rules.specs.Judge.{Report, Release, Round}
use Rattle.rules.specs.Numbers.{Reads, give, groups_after, number, groups, number_bytes}
use Rattle.rules.specs.Written.{times, counted, read_release, read_entry, read_record, entry_numbers, numbers_of, bytes_of, too_large, record_bytes}

-- the last group
last_group : (k v : ℕ) (rest : List ℕ) → v < 128 → (0 < k → 0 < v) → groups_after k (v ∷ rest) ≡ give v rest
unfolding groups_after
last_group k v rest h g = rw (lt-ltb v 128 h) (by k g)
  where
    by : (k : ℕ) → (0 < k → 0 < v) → (refuse 19 if (0 <? k) && (v =? 0) else give v rest) ≡ give v rest
    by zero g = refl
    by (suc k) g =
        let n : (v =? 0) ≡ false = ne_eqb v 0 (λ e. let p = g (omega arith) in omega arith) in
        let o : (0 <? suc k) ≡ true = lt-ltb 0 (suc k) (omega arith) in
        rw (o, n)

more_groups : (k b v : ℕ) (bs rest : List ℕ) → b < 128 → k < 8 → groups_after (k + 1) bs ≡ give v rest → groups_after k ((128 + b) ∷ bs) ≡ give (b + 128 * v) rest
unfolding groups_after
more_groups k b v bs rest h l e =
    let e₁ : (128 + b <? 128) ≡ false = le-ltb (128 + b) 128 (omega arith) in
    let e₂ : (k =? 8) ≡ false = ne_eqb k 8 (λ q. omega arith) in
    let e₃ : 128 + b - 128 ≡ b = omega arith in
    rw (e₁, e₂, e, e₃)

groups_trip : (j k v : ℕ) (rest : List ℕ) → j + k ≡ 8 → v < 128 ^ suc j → (0 < k → 0 < v) → groups_after k (groups j v ++ rest) ≡ give v rest
unfolding groups
groups_trip zero k v rest e h g = last_group k v rest h g
groups_trip (suc j) k v rest e h g = by (v <? 128) refl (groups_trip j (k + 1) (v / 128) rest (omega arith))
  where
    by : (t : Bool) → (v <? 128) ≡ t → (v / 128 < 128 ^ suc j → (0 < k + 1 → 0 < v / 128) → groups_after (k + 1) (groups j (v / 128) ++ rest) ≡ give (v / 128) rest)
        → groups_after k ((if t then v ∷ [] else (128 + v % 128) ∷ groups j (v / 128)) ++ rest) ≡ give v rest
    by true q ih = last_group k v rest (ltb-true v 128 q) g
    by false q ih =
        let m : 128 ≤ v = ltb-false v 128 q in
        let w : v < 128 ^ suc j * 128 = rw (pow-suc 128 (suc j)) at h in
        let i = ih (omega arith) (λ z. omega arith) in
        let s : v % 128 + 128 * (v / 128) ≡ v = omega arith in
        rw s at (more_groups k (v % 128) (v / 128) (groups j (v / 128) ++ rest) rest (omega arith) (omega arith) i)

pub number_trip : (v : ℕ) (rest : List ℕ) → v < 2 ^ 63 → number (number_bytes v ++ rest) ≡ give v rest
number_trip v rest h = groups_trip 8 0 v rest refl h (λ z. absurd (omega arith))

abbrev pub release_numbers : Release → List ℕ → List ℕ
release_numbers x ns = x.task_of ∷ x.delay ∷ ns

-- a number at the head of a list of numbers
module _ (rest : List ℕ) where
  head_fits : (v : ℕ) (ns : List ℕ) → too_large (v ∷ ns) ≡ false → v < 2 ^ 63
  head_fits v ns h = leb-false (2 ^ 63) v (or_no (2 ^ 63 ≤? v) (too_large ns) h).0

  tail_fits : (v : ℕ) (ns : List ℕ) → too_large (v ∷ ns) ≡ false → too_large ns ≡ false
  tail_fits v ns h = (or_no (2 ^ 63 ≤? v) (too_large ns) h).1

  read_one : (v : ℕ) (ns : List ℕ) → too_large (v ∷ ns) ≡ false → number (bytes_of (v ∷ ns) ++ rest) ≡ give v (bytes_of ns ++ rest)
  read_one v ns h = ap number (append_assoc (number_bytes v) (bytes_of ns) rest) ∙ number_trip v (bytes_of ns ++ rest) (head_fits v ns h)

  -- a thing that is written as some numbers and read back
  record Trips {A : Type 0} (write : A → List ℕ → List ℕ) (rd : Reads A) : Type 0 where
    back : (x : A) (ns : List ℕ) → too_large (write x ns) ≡ false → rd (bytes_of (write x ns) ++ rest) ≡ give x (bytes_of ns ++ rest)
    left : (x : A) (ns : List ℕ) → too_large (write x ns) ≡ false → too_large ns ≡ false

  module _ {A : Type 0} {write : A → List ℕ → List ℕ} {rd : Reads A} (t : Trips write rd) where
    all_left : (xs : List A) (ns : List ℕ) → too_large (foldr write ns xs) ≡ false → too_large ns ≡ false
    all_left [] ns h = h
    all_left (x ∷ xs) ns h = all_left xs ns (t.left x (foldr write ns xs) h)

    all_back : (xs : List A) (ns : List ℕ) → too_large (foldr write ns xs) ≡ false → times (length xs) rd (bytes_of (foldr write ns xs) ++ rest) ≡ give xs (bytes_of ns ++ rest)
    unfolding times
    all_back [] ns h = refl
    all_back (x ∷ xs) ns h = rw (t.back x (foldr write ns xs) h, all_back xs ns (t.left x (foldr write ns xs) h))

  releases_trip : Trips release_numbers read_release
  releases_trip = record {
    back = λ x ns h. rw (read_one x.task_of (x.delay ∷ ns) h, read_one x.delay ns (tail_fits x.task_of (x.delay ∷ ns) h));
    left = λ x ns h. tail_fits x.delay ns (tail_fits x.task_of (x.delay ∷ ns) h);
  }

  entry_back : (e : Option Report) (ns : List ℕ) → too_large (entry_numbers e ns) ≡ false → read_entry (bytes_of (entry_numbers e ns) ++ rest) ≡ give e (bytes_of ns ++ rest)
  entry_back none ns h = rw (read_one 0 ns h)
  entry_back (some e) ns h =
      let a = tail_fits 1 (e.progress ∷ e.completed ∷ e.run ∷ ns) h in
      let b = tail_fits e.progress (e.completed ∷ e.run ∷ ns) a in
      let c = tail_fits e.completed (e.run ∷ ns) b in
      rw (
        read_one 1 (e.progress ∷ e.completed ∷ e.run ∷ ns) h,
        read_one e.progress (e.completed ∷ e.run ∷ ns) a,
        read_one e.completed (e.run ∷ ns) b,
        read_one e.run ns c,
      )

  entry_left : (e : Option Report) (ns : List ℕ) → too_large (entry_numbers e ns) ≡ false → too_large ns ≡ false
  entry_left none ns h = tail_fits 0 ns h
  entry_left (some e) ns h =
      tail_fits e.run ns (tail_fits e.completed (e.run ∷ ns) (tail_fits e.progress (e.completed ∷ e.run ∷ ns) (tail_fits 1 (e.progress ∷ e.completed ∷ e.run ∷ ns) h)))

  entries_trip : Trips entry_numbers read_entry
  entries_trip = record { back = entry_back; left = entry_left }

  count_back : (limit room n : ℕ) (s : List ℕ) → n ≤ limit → n ≤ room → counted limit room n s ≡ give n s
  count_back limit room n s h k = rw (le-ltb limit n h, le-ltb room n k)

  -- a record that is written is read back, into lists that have room for it, and not a byte more
  pub record_trip :
      (j k : ℕ) (q : Round) → length q.releases ≤ 64 → length q.releases ≤ j → length q.entries ≤ 15 → length q.entries ≤ k →
      too_large (numbers_of q) ≡ false → read_record j k (record_bytes q ++ rest) ≡ give q rest
  unfolding record_bytes numbers_of read_record
  record_trip j k q m m' n n' h =
      let es = foldr entry_numbers [] q.entries in
      let xs = foldr release_numbers (length q.entries ∷ es) q.releases in
      let a = tail_fits q.r (length q.releases ∷ xs) h in
      let b = tail_fits (length q.releases) xs a in
      let c = all_left releases_trip q.releases (length q.entries ∷ es) b in
      let d = tail_fits (length q.entries) es c in
      rw (
        read_one q.r (length q.releases ∷ xs) h,
        read_one (length q.releases) xs a,
        count_back 64 j (length q.releases) (bytes_of xs ++ rest) m m',
        all_back releases_trip q.releases (length q.entries ∷ es) b,
        read_one (length q.entries) es c,
        count_back 15 k (length q.entries) (bytes_of es ++ rest) n n',
        all_back entries_trip q.entries [] d,
      )
