-- Both round trips hold, of numbers and of records, in the words of specs/RoundTrips.antt.
use mathlib.Core.Path.{◌≡◌, refl, sym, ap, ◌∙◌}
use mathlib.Core.Bool.{Bool, true, false, ◌||◌}
use mathlib.Core.Option.{Option}
use mathlib.Core.List.{List, [], ◌++◌}
use Prim.Native.Nat.{ℕ, ◌+◌, ◌-◌, ◌*◌, ◌^◌, ◌≤◌, ◌<◌}
use native.Mathlib.Omega.{arith}
use borrow.Author.Tests.{le-ltb, lt-leb, ltb-false, leb-false}
use lib.ListN.{length, take, drop, length-append, length-drop}
use lib.Seq.{take_at}
use Rattle.laws.specs.Tests.{◌<?◌, ◌≤?◌}
use Rattle.laws.specs.Lists.{over}
use Rattle.laws.proofs.Tests.{or_no}
use Rattle.rules.specs.Answer.{Answer, done, refused, refuse◌if◌else◌}
use Rattle.rules.specs.Judge.{Report, Release, Round}
use Rattle.rules.specs.Numbers.{Read, Reads, give, number, groups_after, number_bytes}
use Rattle.rules.specs.Written.{Wrote, put, read_record, read_into, numbers_of, too_large, record_bytes, write_number, write_record}
use Rattle.rules.specs.RoundTrips.{Bytes, used, bytes_used, ReadAgain, WrittenAgain, TakesAtMost, Alone, NumberTrips, RecordTrips}
use Rattle.rules.proofs.Answers.{refused≢done, same_done, passed}
use Rattle.rules.proofs.Reading.{Gives, gives_at, Took, Takes, number_takes, record_takes, some_taken}
use Rattle.rules.proofs.Trip.{number_trip, record_trip}
use Rattle.rules.proofs.Back.{number_was_written, record_was_written}
use Rattle.rules.proofs.Sizes.{groups_size, record_size}

-- bytes in front of the rest are those that were used
used_is : {A : Type 0} (s bs : List ℕ) (x : Read A) → s ≡ bs ++ x.rest → used s x ≡ length bs
used_is s bs x e = rw (e, length-append) (omega arith)

bytes_used_is : {A : Type 0} (s bs : List ℕ) (x : Read A) → s ≡ bs ++ x.rest → bytes_used s x ≡ bs
bytes_used_is s bs x e = ap (λ (n : ℕ). take n s) (used_is s bs x e) ∙ ap (take (length bs)) e ∙ take_at bs x.rest (length bs) refl

-- what putting into a lent buffer says
put_said : (bs lent : List ℕ) {w : Wrote} → put bs lent ≡ done w → (length bs ≤ length lent) × (record { buffer = over bs lent; bytes = length bs } ≡ w)
put_said bs lent e =
    let p = passed 21 (length lent <? length bs) e in
    (ltb-false _ _ p.0, same_done p.1)

put_done : (bs lent : List ℕ) → length bs ≤ length lent → put bs lent ≡ done (record { buffer = over bs lent; bytes = length bs })
put_done bs lent h = rw (le-ltb (length lent) (length bs) h)

-- another refusal than a rung's own passed it
passed_over : {A : Type 0} (n m : ℕ) (b : Bool) {rest : Answer A} → (n ≡ m → ⊥) → (refuse n if b else rest) ≡ refused m → (b ≡ false) × (rest ≡ refused m)
passed_over n m true d e = absurd (d (cc))
passed_over n m false d e = (refl, e)

-- what a thing is written as, where nothing but its length refuses it
record Puts {A : Type 0} (write : A → List ℕ → Answer Wrote) (bytes : A → List ℕ) (Fits : A → Type 0) : Type 0 where
  puts : (x : A) (lent : List ℕ) → Fits x → write x lent ≡ put (bytes x) lent
  fits : (x : A) (lent : List ℕ) {w : Wrote} → write x lent ≡ done w → Fits x
  room : (x : A) (lent : List ℕ) → write x lent ≡ refused 21 → Fits x

-- these bytes are read as that thing, and bytes that are read as it are these
record Trips {A : Type 0} (rd : Reads A) (bytes : A → List ℕ) (Fits : A → Type 0) : Type 0 where
  trip : (x : A) (rest : List ℕ) → Fits x → rd (bytes x ++ rest) ≡ give x rest

record Backs {A : Type 0} (rd : Reads A) (bytes : A → List ℕ) (Fits : A → Type 0) : Type 0 where
  back : (s : List ℕ) {x : Read A} → Bytes s → rd s ≡ done x → (s ≡ bytes x.value ++ x.rest) × Fits x.value

module _ {A : Type 0} {write : A → List ℕ → Answer Wrote} {bytes : A → List ℕ} {Fits : A → Type 0} (p : Puts write bytes Fits) where
  wrote : (x : A) (lent : List ℕ) {w : Wrote} → write x lent ≡ done w → (length (bytes x) ≤ length lent) × (record { buffer = over (bytes x) lent; bytes = length (bytes x) } ≡ w)
  wrote x lent e = put_said (bytes x) lent (sym (p.puts x lent (p.fits x lent e)) ∙ e)

  read_again : {rd : Reads A} → Trips rd bytes Fits → ReadAgain rd write
  read_again t = record {
    same = λ x lent {w} e. rw (← (wrote x lent e).1) (t.trip x (drop (length (bytes x)) lent) (p.fits x lent e));
    within = λ x lent {w} e. rw (← (wrote x lent e).1) (wrote x lent e).0;
    long = λ x lent {w} e.
        let l = (wrote x lent e).0 in
        rw (← (wrote x lent e).1, length-append, length-drop) (omega arith);
  }

  written_again : {rd : Reads A} → Backs rd bytes Fits → WrittenAgain rd write
  written_again b = record {
    same = λ s lent {x} z e h.
        let q = b.back s z e in
        let n = used_is s (bytes x.value) x q.0 in
        p.puts x.value lent q.1 ∙ rw (bytes_used_is s (bytes x.value) x q.0, n) (put_done (bytes x.value) lent (omega arith));
  }

  at_most : {rd : Reads A} (most : ℕ) → Backs rd bytes Fits → ((x : A) → Fits x → length (bytes x) ≤ most) → TakesAtMost rd write most
  at_most most b size = record {
    written = λ x lent {w} e. rw (← (wrote x lent e).1) (size x (p.fits x lent e));
    read = λ s {x} z e.
        let q = b.back s z e in
        omega (arith, used_is s (bytes x.value) x q.0, size x.value q.1);
    room = λ x lent h e.
        let f = p.room x lent e in
        refused≢done (sym e ∙ p.puts x lent f ∙ put_done (bytes x) lent (omega (arith, size x f)));
  }

-- what takes its bytes takes them alone
module _ {A : Type 0} {rd : Reads A} (t : Takes rd) (n : ℕ) (none : rd [] ≡ refused n) where
  took : (s : List ℕ) {x : Read A} → rd s ≡ done x → Took rd s x
  took s {x} e =
      let g : Gives (Took rd s) (done x) = rw e at (t.from s) in
      gives_at g

  stands_alone : Alone rd
  stands_alone = record {
    whole = λ s {x} e.
        let k = took s e in
        rw (bytes_used_is s k.taken x (sym k.whole)) k.whole;
    alone = λ s u {x} e.
        let k = took s e in
        rw (bytes_used_is s k.taken x (sym k.whole)) (k.alone u);
    some_byte = λ s {x} e.
        let k = took s e in
        omega (arith, used_is s k.taken x (sym k.whole), some_taken rd n none k.taken (k.alone []));
  }

-- numbers
abbrev Small : ℕ → Type 0
Small v = v < 2 ^ 63

number_puts : Puts write_number number_bytes Small
unfolding write_number
number_puts = record {
  puts = λ v lent h. rw (lt-leb (2 ^ 63) v h);
  fits = λ v lent {w} e. leb-false _ _ (passed 22 (2 ^ 63 ≤? v) e).0;
  room = λ v lent e. leb-false _ _ (passed_over 22 21 (2 ^ 63 ≤? v) (λ n. omega arith) e).0;
}

number_trips : Trips number number_bytes Small
number_trips = record { trip = number_trip }

number_backs : Backs number number_bytes Small
number_backs = record { back = λ s {x} z e. number_was_written s z e }

number_alone : Alone number
unfolding groups_after
number_alone = stands_alone number_takes 18 refl

pub number_round_trips : NumberTrips
number_round_trips = record {
  read_again = read_again number_puts number_trips;
  written_again = written_again number_puts number_backs;
  alone = number_alone;
  size = at_most number_puts 9 number_backs (λ v h. groups_size 8 v);
}

-- records
record Writable (q : Round) : Type 0 where
  listed : length q.releases ≤ 64
  entered : length q.entries ≤ 15
  small : too_large (numbers_of q) ≡ false

abbrev over_counts : Round → Bool
over_counts q = (64 <? length q.releases) || (15 <? length q.entries)

writable : (q : Round) → over_counts q ≡ false → too_large (numbers_of q) ≡ false → Writable q
writable q c l =
    let o = or_no (64 <? length q.releases) (15 <? length q.entries) c in
    record { listed = ltb-false _ _ o.0; entered = ltb-false _ _ o.1; small = l }

record_puts : Puts write_record record_bytes Writable
unfolding write_record
record_puts = record {
  puts = λ q lent h. rw (le-ltb 64 (length q.releases) h.listed, le-ltb 15 (length q.entries) h.entered, h.small);
  fits = λ q lent {w} e.
      let a = passed 15 (over_counts q) e in
      writable q a.0 (passed 22 (too_large (numbers_of q)) a.1).0;
  room = λ q lent e.
      let a = passed_over 15 21 (over_counts q) (λ n. omega arith) e in
      writable q a.0 (passed_over 22 21 (too_large (numbers_of q)) (λ n. omega arith) a.1).0;
}

record_trips : Trips (read_record 64 15) record_bytes Writable
record_trips = record { trip = λ q rest h. record_trip rest 64 15 q h.listed h.listed h.entered h.entered h.small }

record_backs : (j k : ℕ) → Backs (read_record j k) record_bytes Writable
record_backs j k = record {
  back = λ s {x} z e.
      let w = record_was_written j k s z e in
      (w.is, record { listed = w.listed; entered = w.entered; small = w.small });
}

record_alone : (j k : ℕ) → Alone (read_record j k)
unfolding read_record groups_after
record_alone j k = stands_alone (record_takes j k) 18 refl

into_again : (q : Round) (lent : List ℕ) {w : Wrote} → write_record q lent ≡ done w
    → (xs : List Release) (es : List (Option Report)) → length q.releases ≤ length xs → length q.entries ≤ length es
    → read_into xs es w.buffer ≡ record { answer = done q; used = w.bytes; releases = over q.releases xs; entries = over q.entries es }
unfolding read_into
into_again q lent e xs es m n =
    let o = wrote record_puts q lent e in
    let f = record_puts.fits q lent e in
    let r = record_trip (drop (length (record_bytes q)) lent) (length xs) (length es) q f.listed m f.entered n f.small in
    let u : length (over (record_bytes q) lent) - length (drop (length (record_bytes q)) lent) ≡ length (record_bytes q) = rw length-append (omega arith) in
    rw (← o.1, r, u)

pub record_round_trips : RecordTrips
record_round_trips = record {
  read_again = read_again record_puts record_trips;
  written_again = λ j k. written_again record_puts (record_backs j k);
  alone = record_alone;
  size = at_most record_puts (9 + 1 + 64 * (2 * 9) + 1 + 15 * (1 + 3 * 9)) (record_backs 64 15) (λ q h. record_size q h.listed h.entered);
  read_into_again = into_again;
}
