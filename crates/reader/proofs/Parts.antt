-- A record is a time and its two lists, in the readers that the code has: the rules' own, grouped.
use mathlib.Core.Path.{◌≡◌, sym, ap, ◌∙◌}
use mathlib.Core.List.{List}
use Prim.Native.Nat.{ℕ}
use Rattle.rules.specs.Numbers.{Reads, after, give, number}
use Rattle.rules.specs.Written.{times, counted, read_release, read_entry, read_record}
use Rattle.number.proofs.After.{after_same, after_after}
use Rattle.reader.specs.Records.{list_in, lists}

-- a count, its two refusals and its list before what follows
counted_first :
    {A B : Type 0} (limit room : ℕ) (rd : Reads A) (h : List A → Reads B) (s : List ℕ) →
    after (number s) (λ n s. after (counted limit room n s) (λ m s. after (times m rd s) h)) ≡ after (after (after (number s) (counted limit room)) (λ n. times n rd)) h
counted_first limit room rd h s =
    sym (ap (λ a. after a h) (after_after (number s) (counted limit room) (λ n. times n rd)) ∙ after_after (number s) _ h
    ∙ after_same (number s) (λ n t. after_after (counted limit room n t) (λ m. times m rd) h))

pub record_parts : (j k : ℕ) (s : List ℕ) → read_record j k s ≡ after (number s) (lists j k)
unfolding read_record
record_parts j k s = after_same (number s) λ r t.
    counted_first 64 j read_release _ t ∙ after_same (list_in 64 j read_release t) λ xs u. counted_first 15 k read_entry (λ es. give (record { r = r; releases = xs; entries = es })) u
