-- Both round trips of the code, from the contracts of its reader and its writer: what the writer wrote the reader reads again, with the very count of
-- bytes, and what the reader read the writer writes again as the very bytes. Of read_within with any rooms, and so of read_record.
use mathlib.Core.Path.{◌≡◌, sym, ap, ap₂, ◌∙◌}
use mathlib.Core.List.{List}
use Prim.Native.Nat.{ℕ, ◌+◌, ◌≤◌}
use native.Mathlib.Omega.{arith}
use lib.ListN.{length, take, drop, replicate, length-replicate}
use Rattle.laws.specs.Lists.{over}
use Rattle.laws.proofs.Lists.{length_rows}
use Rattle.rules.specs.Answer.{done}
use Rattle.rules.specs.Judge as rules
use Rattle.rules.specs.Written.{write_record}
use Rattle.rules.specs.RoundTrips.{Bytes, used, bytes_used}
use Rattle.rules.proofs.RoundTrips.{record_round_trips}
use Rattle.round.specs.declared.Round.{Round}
use Rattle.round.specs.Round.{release_of, entry_of, no_release, no_entry, releases_of, entries_of, round_of, round_as}
use Rattle.std.specs.Prelude.{Result, Ok}
use Rattle.refusal.specs.declared.Refusal.{Refusal}
use Rattle.refusal.specs.Refusal.{answer_of}
use Rattle.refusal.proofs.Same.{answer_same}
use Rattle.number.specs.Numbers.{written_of, left_from}
use Rattle.number.proofs.Trips.{Put, put_of, bytes_drop}
use Rattle.reader.specs.Records.{within_read, record_read, record_from}
use Rattle.reader.proofs.Rooms.{within_into, within_all, within_above}
use Rattle.reader.proofs.Given.{Given, given_stands, record_given}
use Rattle.writer.proofs.Settled.{RecordWritten}

-- "Reading undoes every writing that was not refused": the round is the one that was written, with blanks in the places that it does not use.
module _ {bytes : List ℕ} {q : Round} {n : ℕ} {left : List ℕ} (w : RecordWritten bytes q (Ok n) left) where
  put : Put (write_record (round_of q) bytes) n
  put = put_of (write_record (round_of q) bytes) w.reply

  buffer : left ≡ put.wrote.buffer
  buffer = w.exit ∙ ap (left_from 0 bytes) put.is

  module _ {r : Result (Round × ℕ) Refusal} where
    pub within_read_again : (j k : ℕ) → q.listed ≤ j → q.entered ≤ k → answer_of r ≡ within_read j k (drop 0 left) → r ≡ Ok (round_as (round_of q), n)
    within_read_again j k h l e =
        let xs = replicate j (release_of no_release) in
        let es = replicate k (entry_of no_entry) in
        let a : length xs ≡ j = length-replicate j _ in
        let b : length es ≡ k = length-replicate k _ in
        let m : length (releases_of q) ≤ length xs = rw (a, length_rows) h in
        let o : length (entries_of q) ≤ length es = rw (b, length_rows) l in
        answer_same (
        e
        ∙ ap (within_read j k) buffer
        ∙ ap₂ (λ (x y : ℕ). within_read x y put.wrote.buffer) (sym a) (sym b)
        ∙ within_into xs es put.wrote.buffer
        ∙ ap record_read (record_round_trips.read_into_again (round_of q) bytes put.is xs es m o)
        ∙ ap (λ (k : ℕ). done (round_as (round_of q), k)) put.count)

    pub record_read_again : answer_of r ≡ record_read (record_from (drop 0 left)) → r ≡ Ok (round_as (round_of q), n)
    record_read_again e =
        within_read_again (64 + q.listed) (15 + q.entered) (omega arith) (omega arith) (e ∙ sym (within_all left) ∙ sym (within_above (omega arith) (omega arith) left))

-- "writing gives back the very bytes of every record that was read", into every buffer that has room for them
module _ (bytes : List ℕ) (from : ℕ) (z : Bytes bytes) {r : Result (Round × ℕ) Refusal} {q : Round} {n : ℕ} (y : r ≡ Ok (q, n)) {lent : List ℕ} {p : Result ℕ Refusal} {left : List ℕ}
    (h : n ≤ length lent) (w : RecordWritten lent q p left) where
  abbrev Very : Type 0
  Very = (p ≡ Ok n) × (left ≡ over (take n (drop from bytes)) lent)

  pub within_written_again : (j k : ℕ) → answer_of r ≡ within_read j k (drop from bytes) → Very
  within_written_again j k e =
      let s = drop from bytes in
      let v : Given j k s q n = record_given j k s (sym (ap answer_of y) ∙ e) in
      let u : n ≡ used s v.what = v.used_is in
      let t : write_record (round_of q) lent ≡ done (record { buffer = over (bytes_used s v.what) lent; bytes = used s v.what }) =
      ap (λ (x : rules.Round). write_record x lent) (given_stands v)
      ∙ (record_round_trips.written_again j k).same s lent (bytes_drop from bytes z) v.is (omega arith) in
      (answer_same (w.reply ∙ ap written_of t ∙ ap done (sym u)), w.exit ∙ ap (left_from 0 lent) t ∙ ap (λ (k : ℕ). over (take k s) lent) (sym u))

  pub record_written_again : answer_of r ≡ record_read (record_from (drop from bytes)) → Very
  record_written_again e = within_written_again 64 15 (e ∙ sym (within_all (drop from bytes)))
