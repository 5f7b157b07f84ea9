-- What the calls of a node were let through by, what they give, and that each keeps the ranges.
use Rattle.std.specs.Prelude.{if◌then◌else◌}
use mathlib.Core.Path.{◌≡◌, refl, sym, subst}
use mathlib.Core.Bool.{Bool, true, false, not, ◌&&◌, ◌||◌, false≢true, true≢false}
use mathlib.Core.Option.{Option, none, some}
use Prim.Native.Nat.{ℕ, ◌+◌, ◌^◌, ◌≤◌, ◌<◌}
use native.Mathlib.Omega.{arith}
use lib.ListN.{get_or}
use borrow.Author.Tests.{ltb-false, leb-true, leb-false, lt-ltb, eqb-true, eqb-false, not-false}
use Rattle.laws.specs.Tests.{◌<?◌, ◌≤?◌, ◌=?◌, found, maybe}
use Rattle.laws.proofs.Tests.{if_cases, and_yes, not_found, none≢some, some_same}
use Rattle.rules.specs.Answer.{Answer, done, refuse◌if◌else◌}
use Rattle.rules.specs.Table.{Table}
use Rattle.rules.specs.Common.{L, job_at, breaker, within_bound}
use Rattle.rules.specs.Judge.{Report, Round}
use Rattle.rules.specs.Close.{too_late, Closed, close}
use Rattle.rules.specs.Node.{Open, Node, new_node, fresh_node, left_behind, lock, beyond_lock, broken_now, Started, start, finish, next_soon, report_of, Reported, report, other_round, as_sent, not_as_sent, NodeClosed, node_closed, node_close}
use Rattle.rules.specs.Sound.{SoundOpen, SoundNode}
use Rattle.rules.proofs.Answers.{passed, passed_naming, passed_on, same_done}
use Rattle.rules.proofs.Tables.{Fit, timeout_small}
use Rattle.rules.proofs.Closing.{accepted, close_keeps, fresh_sound}

-- 3, 4 and 5, which start, finish and report have in common
pub record OnTime (n : Node) (now : ℕ) : Type 0 where
  pub time : now < 2 ^ 48
  pub clock : n.latest ≤ now
  pub base : n.common.B ≤ n.progress

on_time : {A : Type 0} (n : Node) (now : ℕ) {rest : Answer A} {a : A}
    → (refuse 3 if too_late now else refuse 4 if now <? n.latest else refuse 5 if left_behind n else rest) ≡ done a → OnTime n now × (rest ≡ done a)
on_time n now h =
    let a = passed 3 (too_late now) h in
    let b = passed 4 (now <? n.latest) a.1 in
    let d = passed 5 (left_behind n) b.1 in
    (record { time = leb-false _ _ a.0; clock = ltb-false _ _ b.0; base = ltb-false _ _ d.0 }, d.1)

pub record MayStart (tab : Table) (n : Node) (now : ℕ) : Type 0 where
  pub on_time : OnTime n now
  pub idle : n.running ≡ false
  pub more : n.progress ≡ L n.common → ⊥
  pub locked : beyond_lock n ≡ false
  pub bounded : found (broken_now tab n now) ≡ false

abbrev pub when_started : Node → ℕ → Started
when_started n now = record {
  node = record {
    number = n.number;
    common = n.common;
    progress = n.progress;
    completed = n.completed;
    running = true;
    latest = now;
    round = n.round;
  };
  named = (job_at n.common (n.progress + 1)).task_of;
}

pub started : (tab : Table) (n : Node) (now : ℕ) {x : Started} → start tab n now ≡ done x → MayStart tab n now × (x ≡ when_started n now)
unfolding start
started tab n now h =
    let a = on_time n now h in
    let b = passed 6 n.running a.1 in
    let d = passed 7 (n.progress =? L n.common) b.1 in
    let e = passed 8 (beyond_lock n) d.1 in
    let f = passed_naming 9 (broken_now tab n now) e.1 in
    (record { on_time = a.0; idle = b.0; more = eqb-false _ _ d.0; locked = e.0; bounded = f.0 }, sym (same_done f.1))

-- "Permitted if the position is ≤ O, or ≤ the lock while a round is open, or, with no round open, if the bound holds now."
pub data Permitted (tab : Table) (n : Node) (now : ℕ) : Type 0 where
  by_offset : n.progress + 1 ≤ n.common.O → Permitted tab n now
  by_lock : (o : Open) → n.round ≡ some o → n.progress + 1 ≤ lock o → Permitted tab n now
  by_bound : n.round ≡ none → within_bound tab n.common (n.progress + 1) now ≡ true → Permitted tab n now

pub permitted : {tab : Table} {n : Node} {now : ℕ} → MayStart tab n now → Permitted tab n now
unfolding beyond_lock broken_now
permitted {tab} {n} {now} m = by n.round refl m.locked (n.progress + 1 ≤? n.common.O) refl m.bounded
  where
    by : (o : Option Open) → n.round ≡ o → maybe false (λ o. (n.common.O <? n.progress + 1) && (lock o <? n.progress + 1)) o ≡ false
        → (t : Bool) → (n.progress + 1 ≤? n.common.O) ≡ t → found (if found o || t then none else breaker tab n.common (n.progress + 1) now) ≡ false
        → Permitted tab n now
    by o e g true f h = by_offset (leb-true _ _ f)
    by none e g false f h = by_bound e (rw h)
    by (some o) e g false f h =
        let k : n.common.O < n.progress + 1 = leb-false _ _ f in
        by_lock o e (ltb-false _ _ (rw (lt-ltb n.common.O (n.progress + 1) k) at g))

pub record MayFinish (n : Node) (now : ℕ) : Type 0 where
  pub on_time : OnTime n now
  pub runs : n.running ≡ true

abbrev pub when_finished : Node → ℕ → Node
when_finished n now = record {
  number = n.number;
  common = n.common;
  progress = n.progress + 1;
  completed = now;
  running = false;
  latest = now;
  round = n.round;
}

pub finished : (n : Node) (now : ℕ) {x : Node} → finish n now ≡ done x → MayFinish n now × (x ≡ when_finished n now)
unfolding finish
finished n now h =
    let a = on_time n now h in
    let b = passed 10 (not n.running) a.1 in
    (record { on_time = a.0; runs = not-false _ b.0 }, sym (same_done b.1))

pub record MayReport (n : Node) (r : ℕ) : Type 0 where
  pub on_time : OnTime n r
  pub none_open : n.round ≡ none

abbrev pub when_reported : Table → Node → ℕ → Reported
when_reported tab n r = record {
  node = record {
    number = n.number;
    common = n.common;
    progress = n.progress;
    completed = n.completed;
    running = n.running;
    latest = r;
    round = some (record { r = r; sent = report_of tab n r });
  };
  sent = report_of tab n r;
}

pub reported : (tab : Table) (n : Node) (r : ℕ) {x : Reported} → report tab n r ≡ done x → MayReport n r × (x ≡ when_reported tab n r)
unfolding report
reported tab n r h =
    let a = on_time n r h in
    let b = passed 11 (found n.round) a.1 in
    (record { on_time = a.0; none_open = not_found n.round b.0 }, sym (same_done b.1))

as_sent_same : (e : Report) (x : Option Report) → as_sent e x ≡ true → x ≡ some e
as_sent_same e none h = absurd (false≢true h)
as_sent_same e (some d) h =
    let a = and_yes (e.progress =? d.progress && e.completed =? d.completed) (e.run =? d.run) h in
    let b = and_yes (e.progress =? d.progress) (e.completed =? d.completed) a.0 in
    let p : e.progress ≡ d.progress = eqb-true _ _ b.0 in
    let q : e.completed ≡ d.completed = eqb-true _ _ b.1 in
    let u : e.run ≡ d.run = eqb-true _ _ a.1 in
    sym (λ i. some (record { progress = p i; completed = q i; run = u i }))

-- 5, 12 and 13: the open round that a close met
pub record MayClose (n : Node) (q : Round) : Type 0 where
  pub base : n.common.B ≤ n.progress
  pub round : Open
  pub met : n.round ≡ some round
  pub time : round.r ≡ q.r
  pub sent : get_or q.entries n.number none ≡ some round.sent

may_close : (n : Node) (q : Round) → n.common.B ≤ n.progress → (o : Option Open) → n.round ≡ o → maybe true (λ o. not (o.r =? q.r)) o ≡ false
    → maybe true (λ o. not (as_sent o.sent (get_or q.entries n.number none))) o ≡ false → MayClose n q
may_close n q b none e g h = absurd (true≢false g)
may_close n q b (some o) e g h = record { base = b; round = o; met = e; time = eqb-true _ _ (not-false _ g); sent = as_sent_same o.sent _ (not-false _ h) }

-- what was closed, and what the node is after it
pub record ClosedBy (tab : Table) (n : Node) (q : Round) (x : NodeClosed) : Type 0 where
  pub may : MayClose n q
  pub closed : Closed
  pub common : close tab n.common q ≡ done closed
  pub gives : x ≡ node_closed tab n q closed

pub node_closes : (tab : Table) (n : Node) (q : Round) {x : NodeClosed} → node_close tab n q ≡ done x → ClosedBy tab n q x
unfolding node_close
node_closes tab n q h =
    let a = passed 5 (left_behind n) h in
    let b = passed 12 (other_round n q) a.1 in
    let d = passed 13 (not_as_sent n q) b.1 in
    let e = passed_on (close tab n.common q) (λ k. done (node_closed tab n q k)) d.1 in
    record { may = may_close n q (ltb-false _ _ a.0) n.round refl b.0 d.0; closed = e.0; common = e.1; gives = sym (same_done e.2) }

-- the ranges, call by call
pub new_node_sound : (tab : Table) (i : ℕ) → i < tab.m → SoundNode tab (new_node i)
new_node_sound tab i h = record { number = h; common = fresh_sound tab; progress = omega arith; completed = omega arith; latest = omega arith; round = λ o e. none≢some e }

pub fresh_node_sound : (tab : Table) (i : ℕ) {n : Node} → fresh_node tab i ≡ done n → SoundNode tab n
unfolding fresh_node
fresh_node_sound tab i h =
    let a = passed 1 (tab.m ≤? i) h in
    rw (sym (same_done a.1)) (new_node_sound tab i (leb-false _ _ a.0))

pub report_run : (tab : Table) (n : Node) (r : ℕ) → (report_of tab n r).run ≤ 1
unfolding report_of
report_run tab n r = if_cases (λ k. k ≤ 1) (n.running || next_soon tab n r) _ _ (λ e. omega arith) (λ e. omega arith)

module _ {tab : Table} {n : Node} (s : SoundNode tab n) where
  -- a node that may start has a job to start
  pub start_more : {now : ℕ} → MayStart tab n now → n.progress + 1 ≤ L n.common
  start_more m =
      let p = s.progress in
      let e : n.progress + 0 ≤ L n.common = rw m.idle at p in
      omega (arith, m.more)

  pub start_keeps : (now : ℕ) {x : Started} → start tab n now ≡ done x → SoundNode tab x.node
  start_keeps now h =
      let a = started tab n now h in
      rw a.1 (record {
        number = s.number;
        common = s.common;
        progress = start_more a.0;
        completed = s.completed;
        latest = omega (arith, a.0.on_time.time);
        round = s.round;
      })

  pub finish_keeps : (now : ℕ) {x : Node} → finish n now ≡ done x → SoundNode tab x
  finish_keeps now h =
      let a = finished n now h in
      let p = s.progress in
      let e : n.progress + 1 ≤ L n.common = rw a.0.runs at p in
      rw a.1 (record {
        number = s.number;
        common = s.common;
        progress = omega arith;
        completed = a.0.on_time.time;
        latest = omega (arith, a.0.on_time.time);
        round = s.round;
      })

  report_open : {r : ℕ} → r < 2 ^ 48 → SoundOpen n.common (record { r = r; sent = report_of tab n r })
  unfolding report_of
  report_open {r} h = record { time = h; progress = omega (arith, s.progress); completed = s.completed; run = report_run tab n r }

  pub report_keeps : (r : ℕ) {x : Reported} → report tab n r ≡ done x → SoundNode tab x.node
  report_keeps r h =
      let a = reported tab n r h in
      let t = a.0.on_time.time in
      rw a.1 (record {
        number = s.number;
        common = s.common;
        progress = s.progress;
        completed = s.completed;
        latest = omega arith;
        round = λ o e. subst (SoundOpen n.common) (some_same e) (report_open t);
      })

  pub node_close_keeps : Fit tab → (q : Round) {x : NodeClosed} → node_close tab n q ≡ done x → SoundNode tab x.node
  node_close_keeps f q h =
      let a = node_closes tab n q h in
      let k = close_keeps q f s.common a.common in
      let t : q.r < 2 ^ 48 = leb-false _ _ (accepted {tab = tab} {c = n.common} {q = q} a.common).in_time in
      rw a.gives (record {
        number = s.number;
        common = k.sound;
        progress = omega (arith, s.progress, k.onward.grows);
        completed = s.completed;
        latest = omega (arith, s.latest, timeout_small f);
        round = λ o e. none≢some e;
      })
