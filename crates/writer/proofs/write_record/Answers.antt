-- The record writer, a lemma for each way out.
use Rattle.std.specs.Prelude.{if◌then◌else◌}
use mathlib.Core.Path.{◌≡◌, refl, sym, ◌∙◌}
use mathlib.Core.Logic.{◌⊎◌, inl, inr}
use mathlib.Core.Bool.{Bool, true, false}
use mathlib.Core.List.{List}
use Prim.Native.Nat.{ℕ, ◌+◌, ◌≤◌, ◌<◌}
use native.Mathlib.Omega.{arith}
use borrow.Author.Tests.{lt-ltb, le-ltb}
use lib.ListN.{length}
use lib.Seq.{sets}
use Rattle.laws.specs.Lists.{over}
use Rattle.laws.specs.Tests.{◌<?◌}
use Rattle.laws.proofs.Lists.{length_rows}
use Rattle.rules.specs.Answer.{done, refused, refuse◌if◌else◌}
use Rattle.rules.specs.Written.{put, numbers_of, bytes_of, too_large, record_bytes, write_record}
use Rattle.round.specs.declared.Round.{Round}
use Rattle.round.specs.Round.{releases_of, entries_of, round_of}
use Rattle.refusal.proofs.Same.{passed_on}
use Rattle.refusal.proofs.Answers.{done_same, done_refused, refused_same}
use Rattle.number.proofs.Putting.{put_short, put_fits, sets_over}
use Rattle.writer.specs.Writing.{size_of}
use Rattle.writer.proofs.write_record.Goals as goal

-- what a size says
size_large : (t : Bool) (k : ℕ) {n : ℕ} → refused n ≡ (if t then refused 22 else done k) → (t ≡ true) × (n ≡ 22)
size_large true k e = (refl, refused_same e)
size_large false k e = absurd (done_refused (sym e))

size_small : (t : Bool) (k : ℕ) {n : ℕ} → done n ≡ (if t then refused 22 else done k) → (t ≡ false) × (n ≡ k)
size_small true k e = absurd (done_refused e)
size_small false k e = (refl, done_same e)

module _ (s : List ℕ) (q : Round) where
  listed_is : length (releases_of q) ≡ q.listed
  listed_is = length_rows _ q.listed

  entered_is : length (entries_of q) ≡ q.entered
  entered_is = length_rows _ q.entered

  many_releases : 64 < q.listed → write_record (round_of q) s ≡ refused 15
  unfolding write_record
  many_releases h = rw (lt-ltb 64 (length (releases_of q)) (omega (arith, listed_is)))

  releases_few : q.listed ≤ 64 → (64 <? length (releases_of q)) ≡ false
  releases_few h = le-ltb 64 (length (releases_of q)) (omega (arith, listed_is))

  many_entries : q.listed ≤ 64 → 15 < q.entered → write_record (round_of q) s ≡ refused 15
  unfolding write_record
  many_entries h k = rw (releases_few h, lt-ltb 15 (length (entries_of q)) (omega (arith, entered_is)))

  too_many : (64 < q.listed) ⊎ ((q.listed ≤ 64) × (15 < q.entered)) → write_record (round_of q) s ≡ refused 15
  too_many (inl h) = many_releases h
  too_many (inr h) = many_entries h.0 h.1

  module _ (h : q.listed ≤ 64) (k : q.entered ≤ 15) {ns : List ℕ} (e : ns ≡ numbers_of (round_of q)) where
    within : write_record (round_of q) s ≡ (refuse 22 if too_large ns else put (bytes_of ns) s)
    unfolding write_record record_bytes
    within = rw (releases_few h, le-ltb 15 (length (entries_of q)) (omega (arith, entered_is)), e)

    large : {n : ℕ} → refused n ≡ size_of ns → write_record (round_of q) s ≡ refused n
    large p = let z = size_large (too_large ns) (length (bytes_of ns)) p in rw (within, z.0, z.1)

    module _ {taken : ℕ} (p : done taken ≡ size_of ns) where
      small : (too_large ns ≡ false) × (taken ≡ length (bytes_of ns))
      small = size_small (too_large ns) (length (bytes_of ns)) p

      short : length s < taken → write_record (round_of q) s ≡ refused 21
      short l = rw (within, small.0, put_short (bytes_of ns) s 0 (omega (arith, small.1)))

      module _ (l : taken ≤ length s) where
        room : 0 + length (bytes_of ns) ≤ length s
        room = omega (arith, small.1)

        put_asked : (too_large ns ≡ false) × (length (bytes_of ns) ≤ length s)
        put_asked = (small.0, omega (arith, small.1))

        fits : write_record (round_of q) s ≡ done (record { buffer = over (bytes_of ns) s; bytes = taken })
        fits = rw (within, small.0, put_fits (bytes_of ns) s 0 room, small.1)

        left : {b : List ℕ} → b ≡ sets s 0 (bytes_of ns) → b ≡ over (bytes_of ns) s
        left o = o ∙ sets_over (bytes_of ns) s 0 room

pub returns-then-q-gt64 : goal.returns-then-q-gt64
returns-then-q-gt64 c =
    let e = too_many c.args.bytes.now c.args.q c.then-q-gt64.either in
    record { value = rw e; bytes_after = rw e }

pub returns-in_err-taken : goal.returns-in_err-taken
returns-in_err-taken c =
    let a = c.args in
    let e = large a.bytes.now a.q (omega arith) (omega arith) (c.as_slice-numbers.ensures.value ∙ c.record_numbers-record.ensures) c.in_err-taken.ensures in
    record { value = passed_on _ _ c.from_residual.ensures.1 ∙ rw e; bytes_after = rw e }

pub returns-then-bytes-taken : goal.returns-then-bytes-taken
returns-then-bytes-taken c =
    let a = c.args in
    let e = short a.bytes.now a.q (omega arith) (omega arith) (c.as_slice-numbers.ensures.value ∙ c.record_numbers-record.ensures) c.in_ok-taken.ensures (omega arith) in
    record { value = rw e; bytes_after = rw e }

pub returns : goal.returns
returns c =
    let a = c.args in
    let e = fits a.bytes.now a.q (omega arith) (omega arith) (c.as_slice-numbers.ensures.value ∙ c.record_numbers-record.ensures) c.in_ok-taken.ensures (omega arith) in
    record { value = rw e; bytes_after = rw e (left a.bytes.now a.q (omega arith) (omega arith) (c.as_slice-numbers.ensures.value ∙ c.record_numbers-record.ensures) c.in_ok-taken.ensures (omega arith) c.put_numbers.ensures) }
