-- What a call gives back is again a node that was given back: the contracts ask no more than that of a caller who keeps to them.
use mathlib.Core.Path.{◌≡◌, refl, sym, ap, subst}
use mathlib.Core.Option.{Option, none, some}
use Prim.Native.Nat.{ℕ}
use native.Mathlib.Omega.{arith}
use Rattle.rules.specs.Answer.{Answer, done, refused, refused_by}
use Rattle.rules.specs.Node as rules
use Rattle.rules.specs.Sound.{SoundNode}
use Rattle.rules.proofs.Nodes.{fresh_node_sound, start_keeps, finish_keeps, report_keeps, node_close_keeps}
use Rattle.table.specs.Table.{table_of, Checked}
use Rattle.table.specs.declared.Table.{Table}
use Rattle.table.proofs.Facts.{checked_fit}
use Rattle.round.specs.declared.Round.{Round}
use Rattle.round.specs.Round as rounds
use Rattle.common.specs.Common.{common_as}
use Rattle.common.proofs.Records.{common_back}
use Rattle.node.specs.declared.Node.{Node}
use Rattle.refusal.specs.Refusal.{told_as}
use Rattle.refusal.proofs.Answers.{done_same, done_refused}
use Rattle.node.specs.declared.Started.{Started}
use Rattle.node.specs.declared.Reported.{Reported}
use Rattle.node.specs.declared.NodeClosing.{NodeClosing}
use Rattle.node.specs.Node.{round_of, round_as, node_of, node_as, Given, starting, reported_as, reporting, closed_as, node_closing}

open_back : (o : Option rules.Open) → round_of (round_as o) ≡ o
open_back none = refl
open_back (some o) = refl

pub node_back : (k : rules.Node) → node_of (node_as k) ≡ k
node_back k =
    λ i. record {
      number = k.number;
      common = common_back k.common i;
      progress = k.progress;
      completed = k.completed;
      running = k.running;
      latest = k.latest;
      round = open_back k.round i;
    }

-- what was told was done
told_done : {A B : Type 0} (form : A → B) (a : Answer A) {b : B} → done b ≡ told_as form a → (x : A) × (a ≡ done x) × (b ≡ form x)
told_done form (done x) p = (x, refl, done_same p)
told_done form (refused k) p = absurd (done_refused p)
told_done form (refused_by k i) p = absurd (done_refused p)

start_done : (a : Answer rules.Started) {s : Started} → done s ≡ starting a → (x : rules.Started) × (a ≡ done x) × (s.node ≡ node_as x.node)
start_done (done x) p = (x, refl, ap (λ (s : Started). s.node) (done_same p))
start_done (refused k) p = absurd (done_refused p)
start_done (refused_by k i) p = let z : ◌≡◌ {A = ℕ} 0 1 = cc in absurd (omega arith)

module _ {t : Table} where
  pub given_node : {k : rules.Node} → SoundNode (table_of t) k → Given t (node_as k)
  given_node {k} s = record {
    exact = ap common_as (sym (common_back k.common));
    sound = subst (SoundNode (table_of t)) (sym (node_back k)) s;
  }

  same_given : {k : rules.Node} {m : Node} → m ≡ node_as k → SoundNode (table_of t) k → Given t m
  same_given e s = subst (Given t) (sym e) (given_node s)

  pub fresh_kept : (i : ℕ) {m : Node} → done m ≡ told_as node_as (rules.fresh_node (table_of t) i) → Given t m
  fresh_kept i p = let d = told_done node_as (rules.fresh_node (table_of t) i) p in same_given d.2 (fresh_node_sound (table_of t) i d.1)

  module _ {n : Node} (v : Given t n) where
    pub start_kept : (now : ℕ) {s : Started} → done s ≡ starting (rules.start (table_of t) (node_of n) now) → Given t s.node
    start_kept now p = let d = start_done (rules.start (table_of t) (node_of n) now) p in same_given d.2 (start_keeps v.sound now d.1)

    pub finish_kept : (now : ℕ) {m : Node} → done m ≡ told_as node_as (rules.finish (node_of n) now) → Given t m
    finish_kept now p = let d = told_done node_as (rules.finish (node_of n) now) p in same_given d.2 (finish_keeps v.sound now d.1)

    pub report_kept : (time : ℕ) {s : Reported} → done s ≡ reporting (rules.report (table_of t) (node_of n) time) → Given t s.node
    report_kept time p =
        let d = told_done reported_as (rules.report (table_of t) (node_of n) time) p in
        same_given (ap (λ (s : Reported). s.node) d.2) (report_keeps v.sound time d.1)

    pub close_kept : Checked t → (q : Round) {k : NodeClosing} → done k ≡ node_closing (rules.node_close (table_of t) (node_of n) (rounds.round_of q)) → Given t k.node
    close_kept c q p =
        let d = told_done closed_as (rules.node_close (table_of t) (node_of n) (rounds.round_of q)) p in
        same_given (ap (λ (k : NodeClosing). k.node) d.2) (node_close_keeps v.sound (checked_fit c) (rounds.round_of q) d.1)
