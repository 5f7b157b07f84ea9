-- What is read was written so: the bytes that a reading used are those that its result is written as.
use Rattle.std.specs.Prelude.{if◌then◌else◌}
use mathlib.Core.Path.{◌≡◌, refl, sym, ap, subst, ◌∙◌}
use mathlib.Core.Bool.{Bool, true, false, ◌&&◌}
use mathlib.Core.Option.{none}
use mathlib.Core.List.{List, [], ◌∷◌, ◌++◌, foldr, append_assoc}
use Prim.Native.Nat.{ℕ, zero, suc, ◌+◌, ◌-◌, ◌*◌, ◌/◌, ◌%◌, ◌^◌, ◌≤◌, ◌<◌}
use native.Mathlib.Nat.{pow-suc}
use native.Mathlib.Omega.{arith}
use lib.ListN.{length}
use borrow.Author.Tests.{ltb-true, ltb-false, lt-ltb, le-ltb, eqb-true, eqb-false, lt-leb}
use Rattle.laws.specs.Tests.{◌<?◌, ◌=?◌}
use Rattle.rules.specs.Answer.{done, refused, refuse◌if◌else◌}
use Rattle.rules.specs.Judge.{Round}
use Rattle.rules.specs.Numbers.{Read, Reads, after, give, groups_after, number, groups, number_bytes}
use Rattle.rules.specs.Written.{times, counted, read_release, read_report, read_entry, read_record, entry_numbers, numbers_of, bytes_of, too_large, record_bytes}
use Rattle.rules.specs.RoundTrips.{Bytes}
use Rattle.rules.proofs.Reading.{Gives, so, stop, gives_at, gives_all, gives_after, gives_refuse, gives_if}
use Rattle.rules.proofs.Sizes.{one_group}
use Rattle.rules.proofs.Trip.{release_numbers}
use Rattle.laws.proofs.Digits.{group_fits}

-- k groups came before, j more may follow
record Grouped (j k : ℕ) (s : List ℕ) (x : Read ℕ) : Type 0 where
  small : x.value < 128 ^ suc j
  short : 0 < k → 0 < x.value
  is : s ≡ groups j x.value ++ x.rest
  bytes : Bytes x.rest

more : (j k b : ℕ) (bs : List ℕ) (y : Read ℕ) → 128 ≤ b → b < 256 → Grouped j (k + 1) bs y → Grouped (suc j) k (b ∷ bs) (record { value = b - 128 + 128 * y.value; rest = y.rest })
unfolding groups
more j k b bs y h l g =
    let v : ℕ = b - 128 + 128 * y.value in
    let pos : 0 < y.value = g.short (omega arith) in
    let w : 128 ≤ v = omega arith in
    let a : 128 + v % 128 ≡ b = omega arith in
    let d : v / 128 ≡ y.value = omega arith in
    record {
      small = rw (pow-suc 128 (suc j)) (omega (arith, g.small));
      short = λ z. omega arith;
      is = rw (le-ltb v 128 w, a, d) (ap (λ (l : List ℕ). b ∷ l) g.is);
      bytes = g.bytes;
    }

not_zero : (k b : ℕ) → ((0 <? k) && (b =? 0)) ≡ false → 0 < k → 0 < b
not_zero k b u p =
    let v : (b =? 0) ≡ false = rw (lt-ltb 0 k p) at u in
    let n = eqb-false b 0 v in
    omega arith

last : (j k b : ℕ) (bs : List ℕ) → Bytes bs → (b <? 128) ≡ true → ((0 <? k) && (b =? 0)) ≡ false → Grouped j k (b ∷ bs) (record { value = b; rest = bs })
last j k b bs z t u = record {
  small = group_fits j (ltb-true b 128 t);
  short = not_zero k b u;
  is = rw (one_group j b (ltb-true b 128 t));
  bytes = z;
}

groups_come : (j k : ℕ) (s : List ℕ) → j + k ≡ 8 → Bytes s → Gives (Grouped j k s) (groups_after k s)
unfolding groups_after
groups_come j k [] e z = stop
groups_come zero k (b ∷ bs) e z =
    gives_if (b <? 128)
    (λ t. gives_refuse 19 ((0 <? k) && (b =? 0)) (λ u. so (last zero k b bs z.1 t u)))
    (λ t. gives_refuse 19 (k =? 8) (λ u. absurd (eqb-false k 8 u (omega arith))))
groups_come (suc j) k (b ∷ bs) e z =
    gives_if (b <? 128)
    (λ t. gives_refuse 19 ((0 <? k) && (b =? 0)) (λ u. so (last (suc j) k b bs z.1 t u)))
    (λ t. gives_refuse 19 (k =? 8) (λ u. gives_after (λ v. give (b - 128 + 128 * v)) (groups_come j (k + 1) bs (omega arith) z.1)
    (λ y g. so (more j k b bs y (ltb-false b 128 t) z.0 g))))

-- a thing that was read was written so, before whatever follows
record Was {A : Type 0} (write : A → List ℕ → List ℕ) (s : List ℕ) (x : Read A) : Type 0 where
  bytes : Bytes x.rest
  is : (ns t : List ℕ) → x.rest ≡ bytes_of ns ++ t → s ≡ bytes_of (write x.value ns) ++ t
  small : (ns : List ℕ) → too_large ns ≡ false → too_large (write x.value ns) ≡ false

abbrev one : ℕ → List ℕ → List ℕ
one v ns = v ∷ ns

number_was : (s : List ℕ) (x : Read ℕ) → Grouped 8 0 s x → Was one s x
number_was s x g = record {
  bytes = g.bytes;
  is = λ ns t e. g.is ∙ ap (λ (r : List ℕ). number_bytes x.value ++ r) e ∙ sym (append_assoc (number_bytes x.value) (bytes_of ns) t);
  small = λ ns h. rw (lt-leb (2 ^ 63) x.value g.small, h);
}

number_came : (s : List ℕ) → Bytes s → Gives (Was one s) (number s)
number_came s z = gives_all (groups_come 8 0 s refl z) (number_was s)

release_came : (s : List ℕ) → Bytes s → Gives (Was release_numbers s) (read_release s)
release_came s z =
    gives_after _ (number_came s z) λ i p. gives_after _ (number_came i.rest p.bytes) λ d q. so (record {
      bytes = q.bytes;
      is = λ ns t e. p.is (d.value ∷ ns) t (q.is ns t e);
      small = λ ns h. p.small (d.value ∷ ns) (q.small ns h);
    })

-- behind a presence mark of 1
present_came : (s : List ℕ) (m : Read ℕ) → Was one s m → (m.value =? 1) ≡ true → Gives (Was entry_numbers s) (read_report m.rest)
present_came s m w one-mark =
    let e₁ : m.value ≡ 1 = eqb-true _ _ one-mark in
    gives_after _ (number_came m.rest w.bytes) λ p g. gives_after _ (number_came p.rest g.bytes) λ c h. gives_after _ (number_came c.rest h.bytes) λ u i. so (record {
      bytes = i.bytes;
      is = λ ns t e.
          w.is (p.value ∷ c.value ∷ u.value ∷ ns) t (g.is (c.value ∷ u.value ∷ ns) t (h.is (u.value ∷ ns) t (i.is ns t e)))
          ∙ ap (λ (v : ℕ). bytes_of (v ∷ p.value ∷ c.value ∷ u.value ∷ ns) ++ t) e₁;
      small = λ ns f. rw e₁ at (w.small (p.value ∷ c.value ∷ u.value ∷ ns) (g.small (c.value ∷ u.value ∷ ns) (h.small (u.value ∷ ns) (i.small ns f))));
    })

entry_came : (s : List ℕ) → Bytes s → Gives (Was entry_numbers s) (read_entry s)
entry_came s z = gives_after _ (number_came s z) λ m w. by m w (m.value =? 0) refl (m.value =? 1) refl
  where
    by : (m : Read ℕ) → Was one s m → (a : Bool) → (m.value =? 0) ≡ a → (b : Bool) → (m.value =? 1) ≡ b
        → Gives (Was entry_numbers s) ((if a then give none else if b then read_report else λ s. refused 20) m.rest)
    by m w true e b f =
        let e₁ : m.value ≡ 0 = eqb-true _ _ e in
        so (record {
          bytes = w.bytes;
          is = λ ns t h. w.is ns t h ∙ ap (λ (v : ℕ). bytes_of (v ∷ ns) ++ t) e₁;
          small = λ ns h. rw e₁ at (w.small ns h);
        })
    by m w false e true f = present_came s m w f
    by m w false e false f = stop

record Many {A : Type 0} (write : A → List ℕ → List ℕ) (n : ℕ) (s : List ℕ) (x : Read (List A)) : Type 0 where
  was : Was (λ (xs : List A) (ns : List ℕ). foldr write ns xs) s x
  long : length x.value ≡ n

times_came : {A : Type 0} (write : A → List ℕ → List ℕ) (rd : Reads A) → ((s : List ℕ) → Bytes s → Gives (Was write s) (rd s))
    → (n : ℕ) (s : List ℕ) → Bytes s → Gives (Many write n s) (times n rd s)
unfolding times
times_came write rd c zero s z = so (record { was = record { bytes = z; is = λ ns t e. e; small = λ ns h. h }; long = refl })
times_came write rd c (suc n) s z =
    gives_after _ (c s z) λ x p. gives_after _ (times_came write rd c n x.rest p.bytes) λ xs q. so (record {
      was = record {
        bytes = q.was.bytes;
        is = λ ns t e. p.is (foldr write ns xs.value) t (q.was.is ns t e);
        small = λ ns h. p.small (foldr write ns xs.value) (q.was.small ns h);
      };
      long = ap suc q.long;
    })

counted_came : {A : Type 0} {Q : Read A → Type 0} (limit room n : ℕ) (s : List ℕ) (f : ℕ → Reads A) → (n ≤ limit → Gives Q (f n s)) → Gives Q (after (counted limit room n s) f)
counted_came {Q = Q} limit room n s f g = by (limit <? n) refl (room <? n)
  where
    by : (t : Bool) → (limit <? n) ≡ t → (u : Bool) → Gives Q (after (refuse 15 if t else refuse 21 if u else give n s) f)
    by true e u = stop
    by false e true = stop
    by false e false = g (ltb-false limit n e)

-- a record that is read was written so, before whatever follows
abbrev record_numbers : Round → List ℕ → List ℕ
record_numbers q ns = q.r ∷ length q.releases ∷ foldr release_numbers (length q.entries ∷ foldr entry_numbers ns q.entries) q.releases

record WasRecord (s : List ℕ) (x : Read Round) : Type 0 where
  was : Was record_numbers s x
  pub listed : length x.value.releases ≤ 64
  pub entered : length x.value.entries ≤ 15

record_came : (j k : ℕ) (s : List ℕ) → Bytes s → Gives (WasRecord s) (read_record j k s)
unfolding read_record
record_came j k s z =
    gives_after _ (number_came s z) λ r p. gives_after _ (number_came r.rest p.bytes) λ n g. counted_came 64 j n.value n.rest _ λ few.
    gives_after _ (times_came release_numbers read_release release_came n.value n.rest g.bytes) λ xs h. gives_after _ (number_came xs.rest h.was.bytes) λ m i.
    counted_came 15 k m.value m.rest _ λ fewer. gives_after _ (times_came entry_numbers read_entry entry_came m.value m.rest i.bytes) λ es l. so (record {
      was = record {
        bytes = l.was.bytes;
        is = λ ns t e.
            let es' = foldr entry_numbers ns es.value in
            let xs' = foldr release_numbers (m.value ∷ es') xs.value in
            p.is (n.value ∷ xs') t (g.is xs' t (h.was.is (m.value ∷ es') t (i.is es' t (l.was.is ns t e))))
            ∙ ap (λ (k : ℕ). bytes_of (r.value ∷ k ∷ xs') ++ t) (sym h.long)
            ∙ ap (λ (k : ℕ). bytes_of (r.value ∷ length xs.value ∷ foldr release_numbers (k ∷ es') xs.value) ++ t) (sym l.long);
        small = λ ns f.
            let es' = foldr entry_numbers ns es.value in
            let xs' = foldr release_numbers (m.value ∷ es') xs.value in
            subst (λ (k : ℕ). too_large (r.value ∷ length xs.value ∷ foldr release_numbers (k ∷ es') xs.value) ≡ false) (sym l.long)
            (subst (λ (k : ℕ). too_large (r.value ∷ k ∷ xs') ≡ false) (sym h.long)
            (p.small (n.value ∷ xs') (g.small xs' (h.was.small (m.value ∷ es') (i.small es' (l.was.small ns f))))));
      };
      listed = omega (arith, h.long);
      entered = omega (arith, l.long);
    })

-- what was read, as what would be written
pub number_was_written : (s : List ℕ) {x : Read ℕ} → Bytes s → number s ≡ done x → (s ≡ number_bytes x.value ++ x.rest) × (x.value < 2 ^ 63)
number_was_written s {x} z e =
    let g : Gives (Grouped 8 0 s) (done x) = rw e at (groups_come 8 0 s refl z) in
    ((gives_at g).is, (gives_at g).small)

pub record Written (s : List ℕ) (x : Read Round) : Type 0 where
  pub is : s ≡ record_bytes x.value ++ x.rest
  pub small : too_large (numbers_of x.value) ≡ false
  pub listed : length x.value.releases ≤ 64
  pub entered : length x.value.entries ≤ 15

pub record_was_written : (j k : ℕ) (s : List ℕ) {x : Read Round} → Bytes s → read_record j k s ≡ done x → Written s x
unfolding record_bytes numbers_of
record_was_written j k s {x} z e =
    let g : Gives (WasRecord s) (done x) = rw e at (record_came j k s z) in
    let w = gives_at g in
    record { is = w.was.is [] x.rest refl; small = w.was.small [] refl; listed = w.listed; entered = w.entered }
