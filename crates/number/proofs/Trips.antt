-- Both round trips of the code's numbers, from its contracts: what the writer wrote the reader reads again, with the very count of bytes, and what the
-- reader read the writer writes again as the very bytes.
use mathlib.Core.Path.{◌≡◌, refl, ap, ◌∙◌}
use mathlib.Core.List.{List, [], ◌∷◌, ◌++◌}
use Prim.Native.Nat.{ℕ, zero, suc, ◌+◌, ◌-◌, ◌≤◌}
use native.Mathlib.Omega.{arith}
use lib.ListN.{length, take, drop, length-drop, length-append}
use lib.Seq.{length-take-le, drop_at}
use Rattle.laws.specs.Lists.{over}
use Rattle.rules.specs.Answer.{Answer, done, refused, refused_by}
use Rattle.rules.specs.Numbers.{number}
use Rattle.rules.specs.Written.{Wrote, write_number}
use Rattle.rules.specs.RoundTrips.{Bytes}
use Rattle.rules.proofs.RoundTrips.{number_round_trips}
use Rattle.std.specs.Prelude.{Result, Ok}
use Rattle.refusal.specs.declared.Refusal.{Refusal}
use Rattle.refusal.specs.Refusal.{answer_of}
use Rattle.refusal.proofs.Same.{answer_same}
use Rattle.number.specs.Numbers.{number_read, written_of, left_from}
use Rattle.number.proofs.One.{one_done}
use Rattle.number.proofs.Settled.{NumberWritten}

-- a writing that is told as done was done
pub record Put (a : Answer Wrote) (n : ℕ) : Type 0 where
  pub wrote : Wrote
  pub is : a ≡ done wrote
  pub count : wrote.bytes ≡ n

pub put_of : (a : Answer Wrote) {n : ℕ} → done n ≡ written_of a → Put a n
put_of (done w) e = record { wrote = w; is = refl; count = cc }
put_of (refused m) e = let z : ◌≡◌ {A = ℕ} 0 1 = cc in absurd (omega arith)
put_of (refused_by m i) e = let z : ◌≡◌ {A = ℕ} 0 1 = cc in absurd (omega arith)

pub bytes_drop : (n : ℕ) (s : List ℕ) → Bytes s → Bytes (drop n s)
bytes_drop zero s z = z
bytes_drop (suc n) [] z = z
bytes_drop (suc n) (b ∷ s) z = bytes_drop n s z.1

-- a number that was written at a place is read again from there
pub number_read_again :
    {bytes : List ℕ} {from value n : ℕ} {left : List ℕ} → NumberWritten bytes from value (Ok n) left →
    {r : Result (ℕ × ℕ) Refusal} → answer_of r ≡ number_read left (number (drop from left)) → r ≡ Ok (value, from + n)
number_read_again {bytes} {from} {value} {n} {left} w e =
    let p : Put (write_number value (drop from bytes)) n = put_of (write_number value (drop from bytes)) w.reply in
    let b : left ≡ take from bytes ++ p.wrote.buffer = w.exit ∙ ap (left_from from bytes) p.is in
    let t = number_round_trips.read_again in
    let rest = drop p.wrote.bytes (drop from bytes) in
    let i = t.within value (drop from bytes) p.is in
    let j : length p.wrote.buffer ≡ length bytes - from = t.long value (drop from bytes) p.is ∙ length-drop from bytes in
    let l : length rest ≡ length bytes - from - p.wrote.bytes = length-drop p.wrote.bytes (drop from bytes) ∙ rw length-drop in
    let s = number_round_trips.alone.some_byte p.wrote.buffer (t.same value (drop from bytes) p.is) in
    let f : length (take from bytes) ≡ from = length-take-le from bytes (omega arith) in
    let d : drop from left ≡ p.wrote.buffer = ap (drop from) b ∙ drop_at (take from bytes) p.wrote.buffer from f in
    let k : length left ≡ from + length p.wrote.buffer = ap length b ∙ length-append (take from bytes) p.wrote.buffer ∙ rw f in
    let u : length left - length rest ≡ from + n = omega (arith, i, length-drop from bytes, p.count) in
    answer_same (e ∙ ap (λ (x : List ℕ). number_read left (number x)) d ∙ rw (t.same value (drop from bytes) p.is, u))

-- a number that was read at a place is written again as the very bytes, wherever there is room
pub number_written_again :
    (bytes : List ℕ) (from : ℕ) → Bytes bytes → {r : Result (ℕ × ℕ) Refusal} {v next : ℕ} → answer_of r ≡ number_read bytes (number (drop from bytes)) → r ≡ Ok (v, next) →
    {lent : List ℕ} {at : ℕ} {p : Result ℕ Refusal} {left : List ℕ} → next - from ≤ length (drop at lent) → NumberWritten lent at v p left →
    (p ≡ Ok (next - from)) × (left ≡ take at lent ++ over (take (next - from) (drop from bytes)) (drop at lent))
number_written_again bytes from z {r} {v} {next} e g {lent} {at} h w =
    let d = one_done bytes from e (ap answer_of g) in
    let s = number_round_trips.alone.some_byte (drop from bytes) d.is in
    let u : length (drop from bytes) - length (drop next bytes) ≡ next - from = omega (arith, d.on, length-drop from bytes, length-drop next bytes) in
    let t = rw u at (number_round_trips.written_again.same (drop from bytes) (drop at lent) (bytes_drop from bytes z) d.is (omega arith)) in
    (answer_same (w.reply ∙ ap written_of t), w.exit ∙ ap (left_from at lent) t)
