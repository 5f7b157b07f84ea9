-- A node at the doors: from what was looked at and answered by value to what its doors say and leave; a lemma for each way out.
use mathlib.Core.Path.{◌≡◌, refl, sym, ap, ◌∙◌}
use mathlib.Core.List.{List}
use Prim.Native.Nat.{ℕ}
use Rattle.std.specs.Prelude.{Err}
use Rattle.rules.specs.Answer.{Answer, done, refused, refused_by}
use Rattle.rules.specs.Node as rules
use Rattle.rules.proofs.Answers.{refused≢done, refused_by≢done}
use Rattle.refusal.specs.Refusal.{told_as}
use Rattle.refusal.proofs.Answers.{done_same, done_refused}
use Rattle.table.specs.declared.Table.{Table}
use Rattle.table.specs.Table.{table_of}
use Rattle.table.proofs.Facts.{ranges}
use Rattle.round.specs.declared.Round.{Round}
use Rattle.round.specs.Round.{round_of, report_as}
use Rattle.node.specs.declared.Node.{Node}
use Rattle.node.specs.declared.Started.{Started}
use Rattle.node.specs.declared.StartRefusal.{StartRefusal}
use Rattle.node.specs.declared.StartRefusal.TheVariants.{Refused, Waits}
use Rattle.node.specs.declared.Reported.{Reported}
use Rattle.node.specs.declared.NodeClosing.{NodeClosing}
use Rattle.node.specs.Refusals.{start_answer}
use Rattle.node.specs.Node.{node_of, node_as, Ours, starting, reporting, node_closing}
use Rattle.lists.specs.Lists.{round_at, told_round}
use Rattle.lists.proofs.Cut.{node_close_cut}
use Rattle.states.specs.Node.{node_words, node_at}
use Rattle.cabinet.specs.Replies.{left, named}
use Rattle.cabinet.specs.Looks.{held_at, looked}
use Rattle.cabinet.specs.Nodes.{start_door, finish_door, report_door, close_door, words_of}
use Rattle.cabinet.proofs.Plain.{refused≢refused_by, plain_bad, plain_finish}
use Rattle.cabinet.proofs.Rounds.{round_found, round_stopped}
use Rattle.cabinet.proofs.Watching.{found, unheld, held_checked, held_given}

-- where the look halts, so does the door
module _ (ts ns : List ℕ) {n : ℕ} (e : refused n ≡ looked (held_at ts ns)) where
  pub start_halts : (time : ℕ) → start_door ts ns time ≡ refused n
  unfolding start_door
  start_halts time = rw (unheld ts ns e)

  pub finish_halts : (time : ℕ) → finish_door ts ns time ≡ refused n
  unfolding finish_door
  finish_halts time = rw (unheld ts ns e)

  pub report_halts : (r : ℕ) → report_door ts ns r ≡ refused n
  unfolding report_door
  report_halts r = rw (unheld ts ns e)

  pub close_halts : (r : ℕ) (rs es : List ℕ) → close_door ts ns r rs es ≡ refused n
  unfolding close_door
  close_halts r rs es = rw (unheld ts ns e)

-- what a start answers: 9 with the task that it names
not_started : (a : Answer rules.Started) (ns : List ℕ) (e : StartRefusal) → start_answer {A = Started} (Err e) ≡ starting a
    → (start_answer {A = ℕ} (Err e) ≡ named (λ s. s.named) a) × (ns ≡ left (λ s. words_of s.node) ns a)
not_started (done k) ns (Refused e) h = absurd (refused≢done h)
not_started (done k) ns (Waits i) h = absurd (refused_by≢done h)
not_started (refused n) ns (Refused e) h = (ap (named (λ (s : Started). s.task)) h, refl)
not_started (refused n) ns (Waits i) h = absurd (refused≢refused_by (sym h))
not_started (refused_by n j) ns (Refused e) h = absurd (refused≢refused_by h)
not_started (refused_by n j) ns (Waits i) h = (ap (named (λ (s : Started). s.task)) h, refl)

started : (a : Answer rules.Started) (ns : List ℕ) {s : Started} → done s ≡ starting a
    → (done s.task ≡ named (λ s. s.named) a) × (node_words s.node ≡ left (λ s. words_of s.node) ns a)
started (done k) ns h = (ap (named (λ (s : Started). s.task)) h, ap (λ (s : Started). node_words s.node) (done_same h))
started (refused n) ns h = absurd (refused≢done (sym h))
started (refused_by n i) ns h = absurd (refused_by≢done (sym h))

pub finished : (a : Answer rules.Node) {m : Node} → done m ≡ told_as node_as a → ◌≡◌ {A = Answer ℕ} (done 0) (named (λ _. 0) a)
finished (done k) h = refl
finished (refused n) h = absurd (done_refused h)
finished (refused_by n i) h = absurd (done_refused h)

abbrev pub reported_as : rules.Reported → Reported
reported_as s = record { report = report_as s.sent; node = node_as s.node }

-- what is found, is asked
module _ (ts ns : List ℕ) {t : Table} {m : Node} (w : done (t, m) ≡ looked (held_at ts ns)) where
  pub held_ours : Ours m
  held_ours = record { t = t; given = held_given ts ns w }

  module _ (time : ℕ) where
    at_start : start_door ts ns time ≡ rules.start (table_of t) (node_of m) time
    unfolding start_door
    at_start = rw (found node_at ts ns w)

    pub start_refused : (e : StartRefusal) → start_answer {A = Started} (Err e) ≡ starting (rules.start (table_of t) (node_of m) time)
        → (start_answer {A = ℕ} (Err e) ≡ named (λ s. s.named) (start_door ts ns time)) × (ns ≡ left (λ s. words_of s.node) ns (start_door ts ns time))
    start_refused e h = not_started (start_door ts ns time) ns e (h ∙ ap starting (sym at_start))

    pub start_starts : {s : Started} → done s ≡ starting (rules.start (table_of t) (node_of m) time)
        → (done s.task ≡ named (λ s. s.named) (start_door ts ns time)) × (node_words s.node ≡ left (λ s. words_of s.node) ns (start_door ts ns time))
    start_starts h = started (start_door ts ns time) ns (h ∙ ap starting (sym at_start))

    at_finish : finish_door ts ns time ≡ rules.finish (node_of m) time
    unfolding finish_door
    at_finish = rw (found node_at ts ns w)

    pub finish_refused : {n : ℕ} → refused n ≡ told_as node_as (rules.finish (node_of m) time) → finish_door ts ns time ≡ refused n
    finish_refused h = at_finish ∙ plain_bad node_as (rules.finish (node_of m) time) (plain_finish (node_of m) time) h

    pub finish_done : {x : Node} → done x ≡ told_as node_as (rules.finish (node_of m) time) → done x ≡ told_as node_as (finish_door ts ns time)
    finish_done h = h ∙ ap (told_as node_as) (sym at_finish)

    pub report_is : {a : Answer Reported} → a ≡ reporting (rules.report (table_of t) (node_of m) time) → a ≡ reporting (report_door ts ns time)
    unfolding report_door
    report_is h = h ∙ rw (found node_at ts ns w)

  module _ (r : ℕ) (rs es : List ℕ) where
    pub close_unlisted : {n : ℕ} → refused n ≡ told_round (round_at r rs es) → close_door ts ns r rs es ≡ refused n
    unfolding close_door
    close_unlisted d = rw (found node_at ts ns w, round_stopped r rs es d)

    module _ {q : Round} (d : done q ≡ told_round (round_at r rs es)) where
      at_close : close_door ts ns r rs es ≡ rules.node_close (table_of t) (node_of m) (round_of q)
      unfolding close_door
      at_close =
          let f = round_found r rs es d in
          sym (ap (λ (q : Round). rules.node_close (table_of t) (node_of m) (round_of q)) f.2
          ∙ node_close_cut (table_of t) (ranges (held_checked ts ns w)).nodes (node_of m) (held_given ts ns w).sound.number f.0
          ∙ rw (found node_at ts ns w, f.1))

      pub close_is : {a : Answer NodeClosing} → a ≡ node_closing (rules.node_close (table_of t) (node_of m) (round_of q)) → a ≡ node_closing (close_door ts ns r rs es)
      close_is h = h ∙ ap node_closing (sym at_close)
