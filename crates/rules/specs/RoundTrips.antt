-- "Reading undoes every writing that was not refused, and writing gives back the very bytes of every record that was read": of numbers and of records,
-- with the bytes that they take.
use Rattle.std.specs.Prelude.{◌≡◌, List, [], ◌∷◌, ◌++◌, ℕ, ◌+◌, ◌-◌, ◌*◌, ◌≤◌, ◌<◌, length, take, drop}
use Rattle.std.proofs.Math.Option.{Option}
use Rattle.laws.specs.Lists.{over}
use Rattle.rules.specs.Answer.{Answer, done, refused}
use Rattle.rules.specs.Judge.{Report, Release, Round}
use Rattle.rules.specs.Numbers.{Read, Reads, give, number}
use Rattle.rules.specs.Written.{Wrote, read_record, read_into, write_number, write_record}

-- A list of bytes.
abbrev pub Bytes : List ℕ → Type 0
Bytes [] = Unit {0}
Bytes (b ∷ bs) = (b < 256) × Bytes bs

-- So many bytes of s a reading used, and these are they.
abbrev pub used : {A : Type 0} → List ℕ → Read A → ℕ
used s x = length s - length x.rest

abbrev pub bytes_used : {A : Type 0} → List ℕ → Read A → List ℕ
bytes_used s x = take (used s x) s

module _ {A : Type 0} (rd : Reads A) (write : A → List ℕ → Answer Wrote) where
  -- What was written is read again from just the bytes that the writing tells: left is what stood past them in the lent buffer.
  pub record ReadAgain : Type 0 where
    pub same : (x : A) (lent : List ℕ) {w : Wrote} → write x lent ≡ done w → rd w.buffer ≡ give x (drop w.bytes lent)
    pub within : (x : A) (lent : List ℕ) {w : Wrote} → write x lent ≡ done w → w.bytes ≤ length lent
    pub long : (x : A) (lent : List ℕ) {w : Wrote} → write x lent ≡ done w → length w.buffer ≡ length lent

  -- What was read is written again as the very bytes that the reading used, into every buffer that has room for them.
  pub record WrittenAgain : Type 0 where
    pub same :
        (s lent : List ℕ) {x : Read A} → Bytes s → rd s ≡ done x → used s x ≤ length lent →
        write x.value lent ≡ done (record { buffer = over (bytes_used s x) lent; bytes = used s x })

  -- Nothing takes more bytes than so many, written or read; a buffer of so many has room for whatever is not refused for another reason.
  pub record TakesAtMost (most : ℕ) : Type 0 where
    pub written : (x : A) (lent : List ℕ) {w : Wrote} → write x lent ≡ done w → w.bytes ≤ most
    pub read : (s : List ℕ) {x : Read A} → Bytes s → rd s ≡ done x → used s x ≤ most
    pub room : (x : A) (lent : List ℕ) → most ≤ length lent → write x lent ≡ refused 21 → ⊥

-- A reading uses the first bytes, one at least, and no other byte has a part in it: the same is read from them before whatever follows.
pub record Alone {A : Type 0} (rd : Reads A) : Type 0 where
  pub whole : (s : List ℕ) {x : Read A} → rd s ≡ done x → bytes_used s x ++ x.rest ≡ s
  pub alone : (s t : List ℕ) {x : Read A} → rd s ≡ done x → rd (bytes_used s x ++ t) ≡ give x.value t
  pub some_byte : (s : List ℕ) {x : Read A} → rd s ≡ done x → 1 ≤ used s x

pub record NumberTrips : Type 0 where
  pub read_again : ReadAgain number write_number
  pub written_again : WrittenAgain number write_number
  pub alone : Alone number
  -- "at most nine groups"
  pub size : TakesAtMost number write_number 9

pub record RecordTrips : Type 0 where
  pub read_again : ReadAgain (read_record 64 15) write_record
  pub written_again : (j k : ℕ) → WrittenAgain (read_record j k) write_record
  pub alone : (j k : ℕ) → Alone (read_record j k)
  -- r, 64 releases of two numbers and 15 entries of a mark and three numbers; the counts and the marks are below 128.
  pub size : TakesAtMost (read_record 64 15) write_record (9 + 1 + 64 * (2 * 9) + 1 + 15 * (1 + 3 * 9))
  -- into lent lists: "the reply gives the bytes used"; "places past the count stay as they were"
  pub read_into_again :
      (q : Round) (lent : List ℕ) {w : Wrote} → write_record q lent ≡ done w →
      (xs : List Release) (es : List (Option Report)) → length q.releases ≤ length xs → length q.entries ≤ length es →
      read_into xs es w.buffer ≡ record { answer = done q; used = w.bytes; releases = over q.releases xs; entries = over q.entries es }
