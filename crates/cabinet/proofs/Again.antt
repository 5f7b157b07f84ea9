-- What a door writes is taken again by the next call under the same table: the words of a state are a written form, and no state that this library wrote is refused.
use mathlib.Core.Path.{◌≡◌}
use mathlib.Core.List.{List}
use Prim.Native.Nat.{ℕ}
use Rattle.rules.specs.Answer.{Answer, done, ◌>>=◌}
use Rattle.rules.specs.Node as rules
use Rattle.rules.specs.Sound.{SoundNode}
use Rattle.rules.specs.Close.{Closed, close}
use Rattle.rules.proofs.Answers.{passed_on}
use Rattle.rules.proofs.Nodes.{start_keeps, finish_keeps, report_keeps, node_close_keeps}
use Rattle.rules.proofs.Closing.{close_keeps}
use Rattle.table.specs.declared.Table.{Table}
use Rattle.table.specs.Table.{table_of}
use Rattle.table.proofs.Facts.{checked_fit}
use Rattle.common.specs.declared.Common.{Common}
use Rattle.common.specs.Common as commons
use Rattle.common.proofs.Records.{given}
use Rattle.node.specs.declared.Node.{Node}
use Rattle.node.specs.Node.{node_of, node_as}
use Rattle.node.proofs.Kept.{given_node}
use Rattle.words.specs.Table.{table_at}
use Rattle.words.proofs.Table.{at_checked}
use Rattle.states.specs.Node.{node_at}
use Rattle.states.specs.Common.{common_at}
use Rattle.states.proofs.Node as of_node
use Rattle.states.proofs.Common as of_common
use Rattle.lists.specs.Lists.{round_at}
use Rattle.cabinet.specs.Looks.{Under, under, looked_at, watched_at, held_at}
use Rattle.cabinet.specs.Nodes.{start_door, finish_door, report_door, close_door}
use Rattle.cabinet.specs.Nodes as nodes
use Rattle.cabinet.specs.Stations.{close_station_door}
use Rattle.cabinet.specs.Stations as stations
use Rattle.cabinet.proofs.Watching.{through}

-- a state in words that its look takes is found again under the same table
looked_again : {A : Type 0} (at : Table → List ℕ → Answer A) (ts ws : List ℕ) {t : Table} {x : A} → table_at ts ≡ done t → at t ws ≡ done x
    → looked_at at ts ws ≡ under t x
unfolding looked_at
looked_again at ts ws e g = rw (e, g)

module _ (ts ns : List ℕ) where
  abbrev TakenAgain : rules.Node → Type 0
  TakenAgain n = (t : Table) × (table_at ts ≡ done t) × (held_at ts (nodes.words_of n) ≡ under t (node_as n))

  again : {t : Table} → table_at ts ≡ done t → (k : rules.Node) → SoundNode (table_of t) k → TakenAgain k
  again {t} e k v = (t, e, looked_again node_at ts (nodes.words_of k) e (of_node.given_taken (given_node v)))

  pub start_again : (time : ℕ) {k : rules.Started} → start_door ts ns time ≡ done k → TakenAgain k.node
  unfolding start_door
  start_again time {k} e =
      let p = passed_on (held_at ts ns) (λ (u : Under Node). rules.start (table_of u.table) (node_of u.state) time) e in
      let w = through node_at ts ns p.1 in
      again w.0 k.node (start_keeps (of_node.taken_given p.0.table ns w.1).sound time p.2)

  pub finish_again : (time : ℕ) {k : rules.Node} → finish_door ts ns time ≡ done k → TakenAgain k
  unfolding finish_door
  finish_again time {k} e =
      let p = passed_on (held_at ts ns) (λ (u : Under Node). rules.finish (node_of u.state) time) e in
      let w = through node_at ts ns p.1 in
      again w.0 k (finish_keeps (of_node.taken_given p.0.table ns w.1).sound time p.2)

  pub report_again : (r : ℕ) {k : rules.Reported} → report_door ts ns r ≡ done k → TakenAgain k.node
  unfolding report_door
  report_again r {k} e =
      let p = passed_on (held_at ts ns) (λ (u : Under Node). rules.report (table_of u.table) (node_of u.state) r) e in
      let w = through node_at ts ns p.1 in
      again w.0 k.node (report_keeps (of_node.taken_given p.0.table ns w.1).sound r p.2)

  pub close_again : (r : ℕ) (rs es : List ℕ) {k : rules.NodeClosed} → close_door ts ns r rs es ≡ done k → TakenAgain k.node
  unfolding close_door
  close_again r rs es {k} e =
      let p = passed_on (held_at ts ns) (λ (u : Under Node). round_at r rs es >>= λ q. rules.node_close (table_of u.table) (node_of u.state) q) e in
      let w = through node_at ts ns p.1 in
      let q = passed_on (round_at r rs es) (λ q. rules.node_close (table_of p.0.table) (node_of p.0.state) q) p.2 in
      again w.0 k.node
      (node_close_keeps (of_node.taken_given p.0.table ns w.1).sound (checked_fit (at_checked ts w.0)) q.0 q.2)

-- the same of a station's record
pub close_station_again : (ts cs : List ℕ) (r : ℕ) (rs es : List ℕ) {k : Closed} → close_station_door ts cs r rs es ≡ done k
    → (t : Table) × (table_at ts ≡ done t) × (watched_at ts (stations.words_of k.common) ≡ under t (commons.common_as k.common))
unfolding close_station_door
close_station_again ts cs r rs es {k} e =
    let p = passed_on (watched_at ts cs) (λ (u : Under Common). round_at r rs es >>= λ q. close (table_of u.table) (commons.common_of u.state) q) e in
    let w = through common_at ts cs p.1 in
    let q = passed_on (round_at r rs es) (λ q. close (table_of p.0.table) (commons.common_of p.0.state) q) p.2 in (
      p.0.table,
      w.0,
      looked_again common_at ts (stations.words_of k.common) w.0
          (of_common.given_taken (given (close_keeps q.0 (checked_fit (at_checked ts w.0)) (of_common.taken_given p.0.table cs w.1).sound q.2).sound)),
    )
