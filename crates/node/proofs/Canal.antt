-- P2 and P3 of the code: whatever replies the contracts admit, call after call at the worked canal, the last of them waits for task 0 at time 11 and
-- starts task 2 at time 12.
use mathlib.Core.Path.{◌≡◌, refl, sym, ap, ◌∙◌}
use mathlib.Core.List.{[], ◌∷◌}
use Prim.Native.Nat.{ℕ}
use native.Mathlib.Omega.{arith}
use Rattle.laws.specs.Lists.{rows, pad}
use Rattle.rules.specs.Answer.{Answer, done, refused, refused_by, ◌>>=◌}
use Rattle.rules.specs.Table as tables
use Rattle.rules.specs.Node as rules
use Rattle.rules.specs.Canal.{canal, round_0, asks}
use Rattle.rules.proofs.Answers.{passed_on, same_done}
use Rattle.rules.proofs.Canal.{canal_holds}
use Rattle.table.specs.Table.{table_of}
use Rattle.table.specs.declared.Table.{Table}
use Rattle.round.specs.declared.Round.{Round}
use Rattle.round.specs.Round as rounds
use Rattle.node.specs.declared.Node.{Node}
use Rattle.std.specs.Prelude.{Result, Ok, Err}
use Rattle.refusal.specs.declared.Refusal.{Refusal}
use Rattle.refusal.specs.Refusal.{answer_of, told_as}
use Rattle.refusal.proofs.Same.{answer_same}
use Rattle.node.specs.declared.Started.{Started}
use Rattle.node.specs.declared.StartRefusal.{StartRefusal}
use Rattle.node.specs.declared.StartRefusal.TheVariants.{Waits}
use Rattle.node.specs.declared.Reported.{Reported}
use Rattle.node.specs.Refusals.{start_answer}
use Rattle.node.proofs.Settled.{start_same}
use Rattle.node.specs.declared.NodeClosing.{NodeClosing}
use Rattle.node.specs.Node.{node_of, node_as, started_as, starting, reported_as, reporting, closed_as, node_closing}
use Rattle.node.proofs.Kept.{node_back}

-- The canal by value.
abbrev pub canal_table : Table
canal_table = record {
  nodes = 3;
  timeout = 2;
  count = 3;
  longest = pad 64 0 (10 ∷ 20 ∷ 30 ∷ []);
  distance = pad 64 0 (100 ∷ 200 ∷ 400 ∷ []);
  deadline = pad 64 0 (100 ∷ 200 ∷ 400 ∷ []);
  slack = pad 64 0 (40 ∷ 50 ∷ 40 ∷ []);
}

pub canal_is : table_of canal_table ≡ canal
unfolding rows pad
canal_is = refl

pub round_0_is : rounds.round_of (rounds.round_as round_0) ≡ round_0
unfolding rows pad
round_0_is = refl

-- The calls of `asks` in the rules, each by its contract: node 0 closed round 0, ran the job at position 1 from time 2 to time 8, and asks for position 2. Each
-- is made on what the one before it gave back; nothing is asked of their acceptance, which is proved below.
pub record Asked (t : Table) (q : Round) (now : ℕ) (asked : Result Started StartRefusal) : Type 0 where
  pub made : Result Node Refusal
  pub sent : Result Reported Refusal
  pub closed : Result NodeClosing Refusal
  pub begun : Result Started StartRefusal
  pub finished : Result Node Refusal
  pub by_fresh : answer_of made ≡ told_as node_as (rules.fresh_node (table_of t) 0)
  pub by_report : (m : Node) → made ≡ Ok m → answer_of sent ≡ reporting (rules.report (table_of t) (node_of m) 0)
  pub by_close : (s : Reported) → sent ≡ Ok s → answer_of closed ≡ node_closing (rules.node_close (table_of t) (node_of s.node) (rounds.round_of q))
  pub by_start : (k : NodeClosing) → closed ≡ Ok k → start_answer begun ≡ starting (rules.start (table_of t) (node_of k.node) 2)
  pub by_finish : (s : Started) → begun ≡ Ok s → answer_of finished ≡ told_as node_as (rules.finish (node_of s.node) 8)
  pub by_ask : (f : Node) → finished ≡ Ok f → start_answer asked ≡ starting (rules.start (table_of t) (node_of f) now)

-- what follows each call of `asks`
abbrev asking : ℕ → rules.Node → Answer ℕ
asking now f = rules.start canal f now >>= λ u. done u.named

abbrev finishes : ℕ → rules.Started → Answer ℕ
finishes now s = rules.finish s.node 8 >>= asking now

abbrev starts_first : ℕ → rules.NodeClosed → Answer ℕ
starts_first now k = rules.start canal k.node 2 >>= finishes now

abbrev closes : ℕ → rules.Reported → Answer ℕ
closes now s = rules.node_close canal s.node round_0 >>= starts_first now

abbrev reports : ℕ → rules.Node → Answer ℕ
reports now n = rules.report canal n 0 >>= closes now

-- by P3 each call before the last is accepted
pub made_so : (n : rules.Node) × (rules.fresh_node canal 0 ≡ done n) × (reports 12 n ≡ done 2)
made_so = passed_on (rules.fresh_node canal 0) (reports 12) canal_holds.P3

pub sent_so : (s : rules.Reported) × (rules.report canal made_so.0 0 ≡ done s) × (closes 12 s ≡ done 2)
sent_so = passed_on (rules.report canal made_so.0 0) (closes 12) made_so.2

pub closed_so : (k : rules.NodeClosed) × (rules.node_close canal sent_so.0.node round_0 ≡ done k) × (starts_first 12 k ≡ done 2)
closed_so = passed_on (rules.node_close canal sent_so.0.node round_0) (starts_first 12) sent_so.2

pub begun_so : (s : rules.Started) × (rules.start canal closed_so.0.node 2 ≡ done s) × (finishes 12 s ≡ done 2)
begun_so = passed_on (rules.start canal closed_so.0.node 2) (finishes 12) closed_so.2

pub finished_so : (f : rules.Node) × (rules.finish begun_so.0.node 8 ≡ done f) × (asking 12 f ≡ done 2)
finished_so = passed_on (rules.finish begun_so.0.node 8) (asking 12) begun_so.2

asks_last : (now : ℕ) → asks now ≡ asking now finished_so.0
asks_last now =
    ap (λ (x : Answer rules.Node). x >>= reports now) made_so.1
    ∙ ap (λ (x : Answer rules.Reported). x >>= closes now) sent_so.1
    ∙ ap (λ (x : Answer rules.NodeClosed). x >>= starts_first now) closed_so.1
    ∙ ap (λ (x : Answer rules.Started). x >>= finishes now) begun_so.1
    ∙ ap (λ (x : Answer rules.Node). x >>= asking now) finished_so.1

-- the answer of a start, by the task that it names or waits for
waits : (x : Answer rules.Started) {k i : ℕ} → (x >>= λ u. done u.named) ≡ refused_by k i → starting x ≡ refused_by k i
waits (done s) h = let z : ◌≡◌ {A = ℕ} 0 1 = cc in absurd (omega arith)
waits (refused j) h = let z : ◌≡◌ {A = ℕ} 0 1 = cc in absurd (omega arith)
waits (refused_by j l) h = cc

names : (x : Answer rules.Started) {i : ℕ} → (x >>= λ u. done u.named) ≡ done i → (s : Started) × (starting x ≡ done s) × (s.task ≡ i)
names (done s) h = (started_as s, refl, same_done h)
names (refused j) h = let z : ◌≡◌ {A = ℕ} 0 1 = cc in absurd (omega arith)
names (refused_by j l) h = let z : ◌≡◌ {A = ℕ} 0 1 = cc in absurd (omega arith)

-- a call that the rules accept is never refused, and gives back what they do
never_refused : {A B : Type 0} (form : A → B) {a : Answer A} {x : A} → a ≡ done x → {r : Result B Refusal} → answer_of r ≡ told_as form a → r ≡ Ok (form x)
never_refused form d e = answer_same (e ∙ ap (told_as form) d)

module _ {t : Table} {q : Round} (c : table_of t ≡ canal) (r : rounds.round_of q ≡ round_0) {now : ℕ} {u : Result Started StartRefusal} (a : Asked t q now u) where
  -- each of the five calls before the last is accepted
  pub made_accepted : a.made ≡ Ok (node_as made_so.0)
  made_accepted = never_refused node_as (ap (λ (tab : tables.Table). rules.fresh_node tab 0) c ∙ made_so.1) a.by_fresh

  pub sent_accepted : a.sent ≡ Ok (reported_as sent_so.0)
  sent_accepted = never_refused reported_as ((λ i. rules.report (c i) (node_back made_so.0 i) 0) ∙ sent_so.1) (a.by_report _ made_accepted)

  pub closed_accepted : a.closed ≡ Ok (closed_as closed_so.0)
  closed_accepted = never_refused closed_as ((λ i. rules.node_close (c i) (node_back sent_so.0.node i) (r i)) ∙ closed_so.1) (a.by_close _ sent_accepted)

  pub begun_accepted : a.begun ≡ Ok (started_as begun_so.0)
  begun_accepted =
      start_same (a.by_start _ closed_accepted) (sym ((λ i. starting (rules.start (c i) (node_back closed_so.0.node i) 2)) ∙ ap starting begun_so.1))

  pub finished_accepted : a.finished ≡ Ok (node_as finished_so.0)
  finished_accepted = never_refused node_as ((λ i. rules.finish (node_back begun_so.0.node i) 8) ∙ finished_so.1) (a.by_finish _ begun_accepted)

  answers : start_answer u ≡ starting (rules.start canal finished_so.0 now)
  answers = a.by_ask _ finished_accepted ∙ λ i. starting (rules.start (c i) (node_back finished_so.0 i) now)

-- "Position 2 at time 11, progress 1: refused 9, task 0 (51 < 52)."
pub P2_holds : {t : Table} {q : Round} {u : Result Started StartRefusal} → table_of t ≡ canal → rounds.round_of q ≡ round_0 → Asked t q 11 u → u ≡ Err (Waits 0)
P2_holds c r a = start_same (answers c r a) (sym (waits (rules.start canal finished_so.0 11) (sym (asks_last 11) ∙ canal_holds.P2)))

-- "At 12: permitted." The job there is of task 2.
pub P3_holds : {t : Table} {q : Round} {u : Result Started StartRefusal} → table_of t ≡ canal → rounds.round_of q ≡ round_0 → Asked t q 12 u → (s : Started) × (u ≡ Ok s) × (s.task ≡ 2)
P3_holds c r a =
    let n = names (rules.start canal finished_so.0 12) (sym (asks_last 12) ∙ canal_holds.P3) in
    (n.0, start_same (answers c r a) (sym n.1), n.2)
