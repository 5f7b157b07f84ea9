-- The worked canal of document 01: its table, its records, the lines that it prints, and P1 to P12 as one statement over that one table.
use Rattle.std.specs.Prelude.{◌≡◌, false, List, [], ◌∷◌, map, ℕ, ◌+◌, ◌^◌, ◌≤◌, ◌<◌, length, get_or}
use Rattle.std.proofs.Math.Option.{Option, none, some}
use Rattle.laws.specs.Lists.{pad}
use Rattle.rules.specs.Answer.{Answer, done, refused, refused_by, ◌>>=◌}
use Rattle.rules.specs.Table.{Table, check}
use Rattle.rules.specs.Common.{Common, fresh, projection}
use Rattle.rules.specs.Judge.{Report, Release, Round}
use Rattle.rules.specs.Close.{Verdict, Closed, close}
use Rattle.rules.specs.Node.{fresh_node, start, finish, report, node_close}
use Rattle.rules.specs.Numbers.{number}
use Rattle.rules.specs.Written.{bytes_of}
use Rattle.rules.specs.Session.{output, ascii}

-- "m 3, timeout 2; tasks (C, T, D, S): 0 (10, 100, 100, 40), 1 (20, 200, 200, 50), 2 (30, 400, 400, 40)"
abbrev pub canal : Table
canal = record {
  m = 3;
  timeout = 2;
  tasks =
      record { C = 10; T = 100; D = 100; S = 40 }
      ∷ record { C = 20; T = 200; D = 200; S = 50 }
      ∷ record { C = 30; T = 400; D = 400; S = 40 }
      ∷ [];
}

-- An entry "(progress, completion time, run)", a release "(task, delay after r)", the entries of the three nodes, and a record.
abbrev pub sends : ℕ → ℕ → ℕ → Option Report
sends p t u = some (record { progress = p; completed = t; run = u })

abbrev pub released : ℕ → ℕ → Release
released i d = record { task_of = i; delay = d }

abbrev pub nodes : Option Report → Option Report → Option Report → List (Option Report)
nodes a b c = a ∷ b ∷ c ∷ []

abbrev pub round_at : ℕ → List Release → List (Option Report) → Round
round_at r xs es = record { r = r; releases = xs; entries = es }

-- "0 2 1 0 2 1 3 1 0 0 0 1 0 0 0 1 0 0 0"
abbrev pub round_0 : Round
round_0 = round_at 0 (released 1 0 ∷ released 2 1 ∷ []) (nodes (sends 0 0 0) (sends 0 0 0) (sends 0 0 0))

-- "10 1 0 0 3 1 1 8 0 1 0 0 1 1 2 10 0"
abbrev pub round_10 : Round
round_10 = round_at 10 (released 0 0 ∷ []) (nodes (sends 1 8 0) (sends 0 0 1) (sends 2 10 0))

-- "With r = 12, node 2 sending (2, 12, 0) and the others as before"
abbrev pub round_12 : Round
round_12 = round_at 12 (released 0 0 ∷ []) (nodes (sends 1 8 0) (sends 0 0 1) (sends 2 12 0))

-- "120 1 0 0 3 1 3 45 0 1 3 60 0 0", with node 1 at (3, t, 0).
abbrev pub round_120 : ℕ → Round
round_120 t = round_at 120 (released 0 0 ∷ []) (nodes (sends 3 45 0) (sends 3 t 0) none)

-- "A record with no releases and all missing".
abbrev pub silent : ℕ → Round
silent r = round_at r [] (nodes none none none)

-- A station that applies one record after another.
abbrev pub after_0 : Answer Closed
after_0 = close canal fresh round_0

abbrev pub next : Answer Closed → Round → Answer Closed
next a q = a >>= λ k. close canal k.common q

-- What an accepted record shows; a refusal shows itself.
infixl 15 ◌shows◌
abbrev pub ◌shows◌ : {A : Type 0} → Answer Closed → (Closed → A) → Answer A
a shows f = a >>= λ k. done (f k)

abbrev pub order : Closed → List ℕ
order k = map (λ j. j.task_of) k.common.kept

abbrev pub class_of : ℕ → Closed → ℕ
class_of i k = get_or k.reply.classes i 0

-- The class of a node with the order, and with B and W.
abbrev pub class_and_order : ℕ → Closed → ℕ × List ℕ
class_and_order i k = (class_of i k, order k)

abbrev pub class_and_B_W : ℕ → Closed → ℕ × ℕ × ℕ
class_and_B_W i k = (class_of i k, k.common.B, k.common.W)

-- Node 0 closed round 0, ran the job at position 1 from time 2 to time 8, so that its progress is 1, and asks for position 2.
abbrev pub asks : ℕ → Answer ℕ
asks now =
    fresh_node canal 0 >>= λ n. report canal n 0 >>= λ s. node_close canal s.node round_0 >>= λ k.
    start canal k.node 2 >>= λ t. finish t.node 8 >>= λ f. start canal f now >>= λ u. done u.named

-- The same but for the last round's time; and what is said of a round in which nobody was heard.
abbrev pub same_but_last : Common → ℕ → Common
same_but_last c r = record { kept = c.kept; B = c.B; W = c.W; O = c.O; E = c.E; last = some r }

abbrev pub nobody : Verdict
nobody = record { classes = pad 15 0 (1 ∷ 1 ∷ 1 ∷ []); back = 15; notice = false }

-- "P1 to P12 are one statement over one table". A close or a start that is not accepted gives no `done`.
pub record Canal : Type 0 where
  pub table : check canal ≡ done canal
  -- "After round 0, projection(2) is 52."
  pub P1 : (after_0 shows λ k. projection canal k.common 2) ≡ done 52
  -- "Position 2 at time 11, progress 1: refused 9, task 0 (51 < 52)."
  pub P2 : asks 11 ≡ refused_by 9 0
  -- "At 12: permitted." The reply names the task of the job there, 2.
  pub P3 : asks 12 ≡ done 2
  -- "Round 10 gives order 1, 0, 2."
  pub P4 : (next after_0 round_10 shows order) ≡ done (1 ∷ 0 ∷ 2 ∷ [])
  -- "With r = 12, node 2 sending (2, 12, 0) and the others as before: class 0, order 1, 2, 0."
  pub P5 : (next after_0 round_12 shows class_and_order 2) ≡ done (0, 1 ∷ 2 ∷ 0 ∷ [])
  -- "Round 120 with node 1 at (3, 62, 0): class 0." With B and W, for P7.
  pub P6 : (next (next after_0 round_10) (round_120 62) shows class_and_B_W 1) ≡ done (0, 3, 122)
  -- "At (3, 63, 0): class 5, same B and W."
  pub P7 : (next (next after_0 round_10) (round_120 63) shows class_and_B_W 1) ≡ done (5, 3, 122)
  -- "A record with no releases and all missing changes only the last round's time." Of every common record and every time that 3, 14 and 17 let pass:
  pub P8 :
      (c : Common) (r : ℕ) → r < 2 ^ 48 → ((l : ℕ) → c.last ≡ some l → l + 2 ≤ r) → length c.kept ≤ 256 →
      close canal c (silent r) ≡ done (record { common = same_but_last c r; reply = nobody })
  -- .. and after round 0, where time 2 is the first that they let pass.
  pub P8_after_0 : next after_0 (silent 2) ≡ (after_0 shows λ k. record { common = same_but_last k.common 2; reply = nobody })
  -- "Task 0 twice in a list: 16." Whatever the nodes send, and for both delays that a second release may have.
  pub P9 :
      (a b c : Option Report) →
      (close canal fresh (round_at 0 (released 0 0 ∷ released 0 0 ∷ []) (nodes a b c)) ≡ refused 16)
      × (close canal fresh (round_at 0 (released 0 0 ∷ released 0 1 ∷ []) (nodes a b c)) ≡ refused 16)
  -- "Delay 2: 15; delay 1 after delay 0: fits." (Delay 2 stands behind a delay 0: alone it would be a first delay that is not 0.)
  pub P10 :
      (close canal fresh (round_at 0 (released 0 0 ∷ released 1 2 ∷ []) (nodes none none none)) ≡ refused 15)
      × ((close canal fresh (round_at 0 (released 0 0 ∷ released 1 1 ∷ []) (nodes none none none)) shows order) ≡ done (0 ∷ 1 ∷ []))
  -- "80 00 is refused 19."
  pub P11 : number (0x80 ∷ 0x00 ∷ []) ≡ refused 19
  -- "The empty byte string is refused 18."
  pub P12 : number [] ≡ refused 18

-- What the session program reads, "as seven-bit numbers"; and that it "prints exactly" the four lines.
abbrev pub canal_input : List ℕ
canal_input =
    bytes_of (
    3 ∷ 2 ∷ 3 ∷ 10 ∷ 100 ∷ 100 ∷ 40 ∷ 20 ∷ 200 ∷ 200 ∷ 50 ∷ 30 ∷ 400 ∷ 400 ∷ 40
    ∷ 0 ∷ 2 ∷ 1 ∷ 0 ∷ 2 ∷ 1 ∷ 3 ∷ 1 ∷ 0 ∷ 0 ∷ 0 ∷ 1 ∷ 0 ∷ 0 ∷ 0 ∷ 1 ∷ 0 ∷ 0 ∷ 0
    ∷ 10 ∷ 1 ∷ 0 ∷ 0 ∷ 3 ∷ 1 ∷ 1 ∷ 8 ∷ 0 ∷ 1 ∷ 0 ∷ 0 ∷ 1 ∷ 1 ∷ 2 ∷ 10 ∷ 0
    ∷ 120 ∷ 1 ∷ 0 ∷ 0 ∷ 3 ∷ 1 ∷ 3 ∷ 45 ∷ 0 ∷ 1 ∷ 3 ∷ 60 ∷ 0 ∷ 0 ∷ [])

pub record PrintedCanal : Type 0 where
  pub lines :
      output canal_input
      ≡ ascii "round 0 ipo 0 base 0 length 2 toc 2 nodes 000\nround 10 ipo 1 base 0 length 3 toc 2 nodes 004\nround 120 ipo 3 base 3 length 4 toc 122 nodes 001\norder 4:0\n"
