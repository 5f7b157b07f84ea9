-- The number writer, a lemma for each way out.
use mathlib.Core.Path.{◌≡◌, refl, ap, ◌∙◌}
use mathlib.Core.List.{List}
use Prim.Native.Nat.{ℕ, ◌+◌, ◌-◌, ◌^◌, ◌≤◌, ◌<◌}
use native.Mathlib.Omega.{arith}
use borrow.Author.Tests.{le-leb, lt-leb}
use lib.ListN.{length, drop}
use lib.Seq.{sets}
use Rattle.rules.specs.Answer.{Answer, done, refused}
use Rattle.rules.specs.Numbers.{number_bytes}
use Rattle.rules.specs.Written.{write_number}
use Rattle.rules.proofs.Sizes.{groups_some}
use Rattle.number.specs.Numbers.{written_of, left_from}
use Rattle.number.proofs.Putting.{put_short, put_fits, sets_over}
use Rattle.number.proofs.write_number.Goals as goal

module _ (s : List ℕ) (from v : ℕ) where
  abbrev Answers : Answer ℕ → List ℕ → Type 0
  Answers r b = (r ≡ written_of (write_number v (drop from s))) × (b ≡ left_from from s (write_number v (drop from s)))

  large : 9223372036854775808 ≤ v → Answers (refused 22) s
  unfolding write_number
  large h = rw (le-leb (2 ^ 63) v h) (refl, refl)

  module _ (h : v < 9223372036854775808) where
    short : length s - from < length (number_bytes v) → Answers (refused 21) s
    unfolding write_number
    short l = rw (lt-leb (2 ^ 63) v h, put_short (number_bytes v) s from l) (refl, refl)

    past : length s < from → Answers (refused 21) s
    past l = short (omega (arith, groups_some 8 v))

    module _ {n : ℕ} (e : n ≡ length (number_bytes v)) where
      no_room : length s - from < n → Answers (refused 21) s
      no_room l = short (omega arith)

      fits : {b : List ℕ} → b ≡ sets s from (number_bytes v) → from ≤ length s → n ≤ length s - from → Answers (done n) b
      unfolding write_number
      fits p l m =
          let r : from + length (number_bytes v) ≤ length s = omega arith in
          rw (lt-leb (2 ^ 63) v h, put_fits (number_bytes v) s from r) (ap done e, p ∙ sets_over (number_bytes v) s from r)

pub returns-then-value-ge-LIMIT : goal.returns-then-value-ge-LIMIT
returns-then-value-ge-LIMIT c =
    let a = c.args in
    let p : Answers a.bytes.now a.from a.value (refused 22) a.bytes.now = search (large a.bytes.now a.from a.value) in
    record { value = p.0; bytes_after = p.1 }

pub returns-then-bytes-from : goal.returns-then-bytes-from
returns-then-bytes-from c =
    let a = c.args in
    let p : Answers a.bytes.now a.from a.value (refused 21) a.bytes.now = search (past a.bytes.now a.from a.value) in
    record { value = p.0; bytes_after = p.1 }

pub returns-then-bytes-from-2 : goal.returns-then-bytes-from-2
returns-then-bytes-from-2 c =
    let a = c.args in
    let p : Answers a.bytes.now a.from a.value (refused 21) a.bytes.now = search (no_room a.bytes.now a.from a.value) in
    record { value = p.0; bytes_after = p.1 }

pub returns : goal.returns
returns c =
    let a = c.args in
    let size = c.number_size-size.ensures.0 in
    let p = fits a.bytes.now a.from a.value (omega arith) size c.put_number.ensures.1 (omega arith) (omega arith) in
    record { value = p.0; bytes_after = p.1 }
