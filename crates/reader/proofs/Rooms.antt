-- The rooms of a reading: of lent lists it asks nothing but their lengths, and a room above a count's limit is no more than the limit.
use mathlib.Core.Path.{◌≡◌, refl, sym, ap, ◌∙◌}
use mathlib.Core.Bool.{Bool, true, false}
use mathlib.Core.Option.{Option, none}
use mathlib.Core.List.{List}
use Prim.Native.Nat.{ℕ, ◌≤◌}
use native.Mathlib.Omega.{arith}
use borrow.Author.Tests.{le-ltb, ltb-false}
use lib.ListN.{length, replicate}
use Rattle.laws.specs.Tests.{◌<?◌}
use Rattle.rules.specs.Answer.{Answer, done, refused, refused_by}
use Rattle.rules.specs.Judge as rules
use Rattle.rules.specs.Numbers.{Read, Reads, ◌>>=◌, after, give, number}
use Rattle.rules.specs.Written.{times, counted, read_release, read_entry, reading, read_record, read_into}
use Rattle.round.specs.Round.{round_as}
use Rattle.number.specs.Numbers.{placed}
use Rattle.number.proofs.After.{after_same}
use Rattle.reader.specs.Records.{list_in, lists, within_read, record_read, record_from}
use Rattle.reader.proofs.Parts.{record_parts}

-- what is told of a reading into lent lists is what is told of one into as many places
placed_into : (xs : List rules.Release) (es : List (Option rules.Report)) (s : List ℕ) (a : Answer (Read rules.Round)) → placed round_as s a ≡ record_read (reading s xs es a)
placed_into xs es s (done x) = refl
placed_into xs es s (refused n) = refl
placed_into xs es s (refused_by n i) = refl

pub within_into : (xs : List rules.Release) (es : List (Option rules.Report)) (s : List ℕ) → within_read (length xs) (length es) s ≡ record_read (read_into xs es s)
unfolding read_into
within_into xs es s = placed_into xs es s (read_record (length xs) (length es) s)

pub within_all : (s : List ℕ) → within_read 64 15 s ≡ record_read (record_from s)
within_all = within_into (replicate 64 (record { task_of = 0; delay = 0 })) (replicate 15 none)

-- 15 comes first, so that 21 is never told by a room above the limit
counted_above : (limit room n : ℕ) (s : List ℕ) → limit ≤ room → counted limit room n s ≡ counted limit limit n s
counted_above limit room n s h = by (limit <? n) refl
  where
    by : (t : Bool) → (limit <? n) ≡ t → counted limit room n s ≡ counted limit limit n s
    by true e = rw e
    by false e =
        let l : n ≤ limit = ltb-false limit n e in
        rw (le-ltb room n (omega arith), le-ltb limit n l)

list_above : {A : Type 0} (rd : Reads A) (limit room : ℕ) (s : List ℕ) → limit ≤ room → list_in limit room rd s ≡ list_in limit limit rd s
list_above rd limit room s h = ap (λ a. after a (λ n. times n rd)) (after_same (number s) (λ n t. counted_above limit room n t h))

module _ {j k : ℕ} (h : 64 ≤ j) (l : 15 ≤ k) where
  lists_above : (r : ℕ) (s : List ℕ) → lists j k r s ≡ lists 64 15 r s
  lists_above r s =
      ap (λ a. after a (λ xs. list_in 15 k read_entry >>= λ es. give (record { r = r; releases = xs; entries = es }))) (list_above read_release 64 j s h)
      ∙ after_same (list_in 64 64 read_release s) (λ xs t. ap (λ a. after a (λ es. give (record { r = r; releases = xs; entries = es }))) (list_above read_entry 15 k t l))

  pub within_above : (s : List ℕ) → within_read j k s ≡ within_read 64 15 s
  within_above s = ap (placed round_as s) (record_parts j k s ∙ after_same (number s) lists_above ∙ sym (record_parts 64 15 s))
