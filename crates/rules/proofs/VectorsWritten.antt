-- Cases by computation for what P1 to P12 leave open in the written record and the session program: each section pins the sentences of document 01 that
-- stand above it.
use mathlib.Core.Path.{◌≡◌, refl}
use mathlib.Core.Option.{Option, none}
use mathlib.Core.List.{List, [], ◌∷◌, ◌++◌, map}
use Prim.Native.Nat.{ℕ, ◌-◌, ◌^◌}
use lib.ListN.{replicate}
use Rattle.rules.specs.All.{all}
use Rattle.rules.specs.Answer.{Answer, done, refused}
use Rattle.rules.specs.Judge.{Report, Release, Round}
use Rattle.rules.specs.Numbers.{Read, number, number_bytes}
use Rattle.rules.specs.Written.{Reading, Wrote, read_record, read_into, write_number, write_record, bytes_of}
use Rattle.rules.specs.Session.{output, ascii, decimal}
use Rattle.rules.specs.Canal.{sends, released, round_at}

-- What a reading gives: the value and the bytes that are left.
abbrev got : {A : Type 0} → A → List ℕ → Answer (Read A)
got v rest = done (record { value = v; rest = rest })

-- "groups of seven bits, lowest first, the top bit set on all groups but the last, shortest form, at most nine groups. 127 is 7F, 128 is 80 01, 400 is 90 03."
numbers_written :
    (map number_bytes (0 ∷ 127 ∷ 128 ∷ 400 ∷ []) ≡ (0x00 ∷ []) ∷ (0x7F ∷ []) ∷ (0x80 ∷ 0x01 ∷ []) ∷ (0x90 ∷ 0x03 ∷ []) ∷ [])
    × (number_bytes (2 ^ 63 - 1) ≡ replicate 8 0xFF ++ (0x7F ∷ []))
    × (number (0x00 ∷ 0x05 ∷ []) ≡ got 0 (0x05 ∷ []))
    × (number (0x7F ∷ []) ≡ got 127 [])
    × (number (0x80 ∷ 0x01 ∷ []) ≡ got 128 [])
    × (number (0x90 ∷ 0x03 ∷ 0x05 ∷ []) ≡ got 400 (0x05 ∷ []))
    × (number (replicate 8 0xFF ++ (0x7F ∷ [])) ≡ got (2 ^ 63 - 1) [])
unfolding all
numbers_written = (refl, refl, refl, refl, refl, refl, refl)

-- 18 "bytes end early"; 19 "a ninth group with its top bit set (at once, with or without a tenth byte), or the last of several groups is 0"
number_faults :
    (number (0x80 ∷ []) ≡ refused 18)
    × (number (replicate 8 0x80) ≡ refused 18)
    × (number (0x81 ∷ 0x00 ∷ []) ≡ refused 19)
    × (number (replicate 8 0x80 ++ (0x01 ∷ [])) ≡ got (2 ^ 56) [])
    × (number (replicate 8 0x80 ++ (0x00 ∷ [])) ≡ refused 19)
    × (number (replicate 9 0x80) ≡ refused 19)
    × (number (replicate 9 0x80 ++ (0x01 ∷ [])) ≡ refused 19)
unfolding all
number_faults = (refl, refl, refl, refl, refl, refl, refl)

abbrev reads : List ℕ → Answer (Read Round)
reads = read_record 64 15

-- "A record is: r, count of releases, (task, delay) each, count of entries, then per entry 0, or 1 with progress, completion time, run."; 20 "presence mark above 1".
-- A mark is a number like the others.
record_read :
    (reads (5 ∷ 2 ∷ 1 ∷ 0 ∷ 2 ∷ 1 ∷ 2 ∷ 1 ∷ 7 ∷ 4 ∷ 1 ∷ 0 ∷ 9 ∷ [])
    ≡ got (round_at 5 (released 1 0 ∷ released 2 1 ∷ []) (sends 7 4 1 ∷ none ∷ [])) (9 ∷ []))
    × (reads (5 ∷ 0 ∷ 1 ∷ 2 ∷ []) ≡ refused 20)
    × (reads (5 ∷ 0 ∷ 1 ∷ 0x81 ∷ 0x00 ∷ []) ≡ refused 19)
    × (reads (5 ∷ 0 ∷ 1 ∷ 0x80 ∷ 0x01 ∷ []) ≡ refused 20)
    × (reads (5 ∷ 0 ∷ 1 ∷ 0x80 ∷ []) ≡ refused 18)
    × (reads (5 ∷ 0 ∷ 1 ∷ 1 ∷ 7 ∷ 4 ∷ []) ≡ refused 18)
    × (reads (5 ∷ 0 ∷ []) ≡ refused 18)
unfolding all
record_read = (refl, refl, refl, refl, refl, refl, refl)

-- "a count of releases over 64 or of entries over 15 gives 15 as soon as it is met. Otherwise the earliest byte fault decides."
counts_read :
    (reads (5 ∷ 64 ∷ []) ≡ refused 18)
    × (reads (5 ∷ 65 ∷ []) ≡ refused 15)
    × (reads (5 ∷ 65 ∷ 0x80 ∷ 0x00 ∷ []) ≡ refused 15)
    × (reads (5 ∷ number_bytes (2 ^ 62)) ≡ refused 15)
    × (reads (5 ∷ 0 ∷ 15 ∷ []) ≡ refused 18)
    × (reads (5 ∷ 0 ∷ 16 ∷ []) ≡ refused 15)
    × (reads (5 ∷ 1 ∷ 0x80 ∷ 0x00 ∷ 0 ∷ 16 ∷ []) ≡ refused 19)
unfolding all
counts_read = (refl, refl, refl, refl, refl, refl, refl)

-- "Where the caller lends a list to read into and it is shorter than a count just read, that is 21 there, after that count's 15; places past the count stay as they
-- were." "the reply gives the bytes used, 0 on a refusal"; a refusal changes nothing, not even the places already read. "A missing entry carries no numbers."
abbrev lent_releases : List Release
lent_releases = released 8 8 ∷ released 9 9 ∷ []

abbrev lent_entries : List (Option Report)
lent_entries = sends 8 8 8 ∷ sends 9 9 9 ∷ []

abbrev reads_into : List ℕ → Reading
reads_into = read_into lent_releases lent_entries

abbrev unread : ℕ → Reading
unread n = record { answer = refused n; used = 0; releases = lent_releases; entries = lent_entries }

abbrev read_so : Round → ℕ → List Release → List (Option Report) → Reading
read_so q used releases entries = record { answer = done q; used = used; releases = releases; entries = entries }

lists_lent :
    (reads_into (5 ∷ 1 ∷ 1 ∷ 0 ∷ 1 ∷ 0 ∷ 7 ∷ 7 ∷ [])
    ≡ read_so (round_at 5 (released 1 0 ∷ []) (none ∷ [])) 6 (released 1 0 ∷ released 9 9 ∷ []) (none ∷ sends 9 9 9 ∷ []))
    × (reads_into (5 ∷ 3 ∷ []) ≡ unread 21)
    × (reads_into (5 ∷ 65 ∷ []) ≡ unread 15)
    × (reads_into (5 ∷ 2 ∷ []) ≡ unread 18)
    × (reads_into (5 ∷ 1 ∷ 1 ∷ 0 ∷ 3 ∷ []) ≡ unread 21)
    × (reads_into (5 ∷ 1 ∷ 1 ∷ 0 ∷ 16 ∷ []) ≡ unread 15)
    × (reads_into (5 ∷ 1 ∷ 1 ∷ 0 ∷ 2 ∷ 0 ∷ 2 ∷ []) ≡ unread 20)
unfolding all
lists_lent = (refl, refl, refl, refl, refl, refl, refl)

-- "Write: 15 for those counts, then 22, then 21; bytes past the record stay as they were." 22 "value of 2^63 or more to write"; a missing entry has none.
abbrev wrote : List ℕ → ℕ → Answer Wrote
wrote buffer bytes = done (record { buffer = buffer; bytes = bytes })

writing :
    (write_record (round_at 400 (released 1 0 ∷ []) (none ∷ sends 7 4 1 ∷ [])) (replicate 13 0xAA)
    ≡ wrote (0x90 ∷ 3 ∷ 1 ∷ 1 ∷ 0 ∷ 2 ∷ 0 ∷ 1 ∷ 7 ∷ 4 ∷ 1 ∷ 0xAA ∷ 0xAA ∷ []) 11)
    × (write_record (round_at 5 [] []) (0xAA ∷ 0xAA ∷ 0xAA ∷ []) ≡ wrote (5 ∷ 0 ∷ 0 ∷ []) 3)
    × (write_record (round_at 5 [] []) (0xAA ∷ 0xAA ∷ []) ≡ refused 21)
    × (write_record (round_at (2 ^ 63) [] []) [] ≡ refused 22)
    × (write_record (round_at 5 (released 0 (2 ^ 63) ∷ []) []) [] ≡ refused 22)
    × (write_record (round_at 5 [] (sends 0 (2 ^ 63) 0 ∷ [])) [] ≡ refused 22)
    × (write_record (round_at (2 ^ 63 - 1) [] []) [] ≡ refused 21)
    × (write_record (round_at (2 ^ 63) (replicate 65 (released 0 0)) []) [] ≡ refused 15)
    × (write_record (round_at (2 ^ 63) [] (replicate 16 none)) [] ≡ refused 15)
    × (write_record (round_at 5 (replicate 64 (released 0 0)) (replicate 15 none)) [] ≡ refused 21)
unfolding all
writing = (refl, refl, refl, refl, refl, refl, refl, refl, refl, refl)

writing_numbers :
    (write_number 128 (0xAA ∷ 0xAA ∷ 0xAA ∷ []) ≡ wrote (0x80 ∷ 0x01 ∷ 0xAA ∷ []) 2)
    × (write_number 128 (0xAA ∷ []) ≡ refused 21)
    × (write_number (2 ^ 63 - 1) (replicate 9 0xAA) ≡ wrote (replicate 8 0xFF ++ (0x7F ∷ [])) 9)
    × (write_number (2 ^ 63) [] ≡ refused 22)
unfolding all
writing_numbers = (refl, refl, refl, refl)

-- THE SESSION PROGRAM

abbrev prints : List ℕ → List ℕ
prints ns = output (bytes_of ns)

-- One node, one task, timeout 2.
abbrev small : List ℕ → List ℕ
small records = 1 ∷ 2 ∷ 1 ∷ 10 ∷ 100 ∷ 100 ∷ 40 ∷ records

-- "Input that ends between two records ends the session, with the order line"; "position:task of each job kept, blank between, or `order` alone": from B + 1 on,
-- also where O is past it.
ends :
    (prints (small []) ≡ ascii "order\n")
    × (prints (small (0 ∷ 1 ∷ 0 ∷ 0 ∷ 1 ∷ 0 ∷ 100 ∷ 1 ∷ 0 ∷ 0 ∷ 1 ∷ 0 ∷ []))
    ≡ ascii "round 0 ipo 0 base 0 length 1 toc 0 nodes 1\nround 100 ipo 0 base 0 length 2 toc 0 nodes 1\norder 1:0 2:0\n")
    × (prints (small (0 ∷ 1 ∷ 0 ∷ 0 ∷ 1 ∷ 1 ∷ 0 ∷ 0 ∷ 0 ∷ 10 ∷ 0 ∷ 1 ∷ 1 ∷ 0 ∷ 0 ∷ 1 ∷ []))
    ≡ ascii "round 0 ipo 0 base 0 length 1 toc 2 nodes 0\nround 10 ipo 1 base 0 length 1 toc 2 nodes 0\norder 1:0\n")
unfolding all
ends = (refl, refl, refl)

-- "A refusal prints `refused N` in place of the round line and stops, followed by the order line." A record is read whole before it is judged.
stops :
    (prints (small (0 ∷ 1 ∷ 0 ∷ 0 ∷ 1 ∷ 0 ∷ 1 ∷ 0 ∷ 1 ∷ 0 ∷ 100 ∷ 0 ∷ 1 ∷ 0 ∷ []))
    ≡ ascii "round 0 ipo 0 base 0 length 1 toc 0 nodes 1\nrefused 14\norder 1:0\n")
    × (prints (small (0 ∷ 1 ∷ 9 ∷ 0 ∷ 1 ∷ 0 ∷ [])) ≡ ascii "refused 15\norder\n")
    × (prints (small (0 ∷ 1 ∷ 9 ∷ 0 ∷ 1 ∷ [])) ≡ ascii "refused 18\norder\n")
    × (prints (small (2 ^ 48 ∷ 0 ∷ 1 ∷ 2 ∷ [])) ≡ ascii "refused 20\norder\n")
unfolding all
stops = (refl, refl, refl, refl)

-- "A refused table, or a byte fault in it, prints only `refused N`; 1 is decided as soon as the first three numbers are read", and a byte fault comes before 2.
refused_table :
    (prints [] ≡ ascii "refused 18\n")
    × (prints (16 ∷ 2 ∷ []) ≡ ascii "refused 18\n")
    × (prints (16 ∷ 2 ∷ 1 ∷ []) ≡ ascii "refused 1\n")
    × (prints (1 ∷ 0 ∷ 1 ∷ []) ≡ ascii "refused 1\n")
    × (prints (1 ∷ 2 ∷ 65 ∷ []) ≡ ascii "refused 1\n")
    × (prints (1 ∷ 2 ∷ 1 ∷ 10 ∷ 99 ∷ 100 ∷ 40 ∷ 0 ∷ 0 ∷ 1 ∷ 0 ∷ []) ≡ ascii "refused 2\n")
    × (prints (1 ∷ 2 ∷ 2 ∷ 10 ∷ 99 ∷ 100 ∷ 40 ∷ 0 ∷ []) ≡ ascii "refused 18\n")
unfolding all
refused_table = (refl, refl, refl, refl, refl, refl, refl)

-- The numbers of the lines.
decimals :
    (map decimal (0 ∷ 9 ∷ 10 ∷ 100 ∷ 4096 ∷ []) ≡ ascii "0" ∷ ascii "9" ∷ ascii "10" ∷ ascii "100" ∷ ascii "4096" ∷ [])
    × (decimal (2 ^ 48 - 1) ≡ ascii "281474976710655")
    × (decimal (2 ^ 64 - 1) ≡ ascii "18446744073709551615")
unfolding all
decimals = (refl, refl, refl)
