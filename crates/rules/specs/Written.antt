-- The written record.
use Rattle.std.specs.Prelude.{Bool, false, ◌||◌, ℕ, zero, suc, ◌-◌, ◌^◌, length, if◌then◌else◌}
use Rattle.std.proofs.Math.Option.{Option, none, some}
use mathlib.Core.List.{List, [], ◌∷◌, ◌++◌, foldr}
use Rattle.laws.specs.Tests.{◌<?◌, ◌≤?◌, ◌=?◌}
use Rattle.laws.specs.Lists.{over}
use Rattle.rules.specs.Answer.{Answer, done, refused, refused_by, refuse◌if◌else◌}
use Rattle.rules.specs.Judge.{Report, Release, Round}
use Rattle.rules.specs.Numbers.{Read, Reads, ◌>>=◌, give, number, number_bytes}

-- So many, one after the other.
unfoldable pub times : {A : Type 0} → ℕ → Reads A → Reads (List A)
times zero rd = give []
times (suc n) rd = do
  x ← rd
  xs ← times n rd
  give (x ∷ xs)

-- "Read: a count of releases over 64 or of entries over 15 gives 15 as soon as it is met. Where the caller lends a list to read into
-- and it is shorter than a count just read, that is 21 there, after that count's 15"
abbrev pub counted : ℕ → ℕ → ℕ → Reads ℕ
counted limit room n = λ s. refuse 15 if limit <? n else refuse 21 if room <? n else give n s

abbrev pub read_release : Reads Release
read_release = do
  i ← number
  d ← number
  give (record { task_of = i; delay = d })

abbrev pub read_report : Reads (Option Report)
read_report = do
  p ← number
  t ← number
  u ← number
  give (some (record { progress = p; completed = t; run = u }))

-- "per entry 0, or 1 with progress, completion time, run"; 20: "presence mark above 1"
abbrev pub read_entry : Reads (Option Report)
read_entry = do
  mark ← number
  (if mark =? 0 then give none else if mark =? 1 then read_report else λ s. refused 20)

-- "A record is: r, count of releases, (task, delay) each, count of entries, then per entry .."; read into lists of so many places.
unfoldable pub read_record : ℕ → ℕ → Reads Round
read_record release-room entry-room = do
  r ← number
  k ← number
  k' ← counted 64 release-room k
  releases ← times k' read_release
  n ← number
  n' ← counted 15 entry-room n
  entries ← times n' read_entry
  give (record { r = r; releases = releases; entries = entries })

-- All that a reading into lent lists gives: "the reply gives the bytes used, 0 on a refusal"; "places past the count stay as they were"; a refusal
-- changes nothing in them.
pub record Reading : Type 0 where
  pub answer : Answer Round
  pub used : ℕ
  pub releases : List Release
  pub entries : List (Option Report)

abbrev pub reading : List ℕ → List Release → List (Option Report) → Answer (Read Round) → Reading
reading s xs es (done x) =
    record { answer = done x.value; used = length s - length x.rest; releases = over x.value.releases xs; entries = over x.value.entries es }
reading s xs es (refused n) = record { answer = refused n; used = 0; releases = xs; entries = es }
reading s xs es (refused_by n i) = record { answer = refused_by n i; used = 0; releases = xs; entries = es }

unfoldable pub read_into : List Release → List (Option Report) → List ℕ → Reading
read_into xs es s = reading s xs es (read_record (length xs) (length es) s)

-- "A missing entry carries no numbers."
abbrev pub entry_numbers : Option Report → List ℕ → List ℕ
entry_numbers none ns = 0 ∷ ns
entry_numbers (some e) ns = 1 ∷ e.progress ∷ e.completed ∷ e.run ∷ ns

-- A record as the numbers that are written: "r, count of releases, (task, delay) each, count of entries, then per entry .."
unfoldable pub numbers_of : Round → List ℕ
numbers_of q =
    q.r ∷ length q.releases
    ∷ foldr (λ x ns. x.task_of ∷ x.delay ∷ ns) (length q.entries ∷ foldr entry_numbers [] q.entries) q.releases

abbrev pub bytes_of : List ℕ → List ℕ
bytes_of = foldr (λ v bs. number_bytes v ++ bs) []

-- 22: "value of 2^63 or more to write"
abbrev pub too_large : List ℕ → Bool
too_large = foldr (λ v b. (2 ^ 63 ≤? v) || b) false

unfoldable pub record_bytes : Round → List ℕ
record_bytes q = bytes_of (numbers_of q)

-- What a writing gives: "bytes past the record stay as they were".
pub record Wrote : Type 0 where
  pub buffer : List ℕ
  pub bytes : ℕ

-- 21: "written record longer than the buffer"
abbrev pub put : List ℕ → List ℕ → Answer Wrote
put bs lent = refuse 21 if length lent <? length bs else done (record { buffer = over bs lent; bytes = length bs })

unfoldable pub write_number : ℕ → List ℕ → Answer Wrote
write_number v lent = refuse 22 if 2 ^ 63 ≤? v else put (number_bytes v) lent

-- "Write: 15 for those counts, then 22, then 21"
unfoldable pub write_record : Round → List ℕ → Answer Wrote
write_record q lent =
    refuse 15 if (64 <? length q.releases) || (15 <? length q.entries)
    else refuse 22 if too_large (numbers_of q)
    else put (record_bytes q) lent
