-- What a look at a table and a state under it tells: both are then such as every call asks for.
use mathlib.Core.Path.{◌≡◌, sym, ap, subst, ◌∙◌}
use mathlib.Core.Bool.{not}
use mathlib.Core.List.{List}
use Prim.Native.Nat.{ℕ}
use lib.ListN.{length}
use Rattle.laws.specs.Tests.{◌=?◌}
use Rattle.rules.specs.Answer.{Answer, done, refused, refused_by, ◌>>=◌}
use Rattle.rules.specs.Table as rules
use Rattle.rules.proofs.Answers.{same_done, passed_on, refused≢done}
use Rattle.table.specs.declared.Table.{Table}
use Rattle.table.specs.Table.{table_of, Checked}
use Rattle.common.specs.declared.Common.{Common}
use Rattle.common.specs.Common as commons
use Rattle.node.specs.declared.Node.{Node}
use Rattle.node.specs.Node as nodes
use Rattle.words.specs.Table.{table_in, passes, table_at}
use Rattle.words.proofs.Table.{at_checked}
use Rattle.states.specs.Common.{common_in, known_common, common_at}
use Rattle.states.specs.Node.{node_in, known_node, node_at}
use Rattle.states.proofs.Common as of_common
use Rattle.states.proofs.Node as of_node
use Rattle.cabinet.specs.Looks.{Under, under, looked_at, watched_at, held_at, looked}
use Rattle.cabinet.proofs.Plain.{Plain, plain_done, plain_if, plain_then, plain_bad}

pub plain_table : (ws : List ℕ) → Plain (table_at ws)
unfolding table_at
plain_table ws =
    plain_if 100 (not (length ws =? 259))
    (plain_if 101 (not (passes (rules.check (table_of (table_in ws))))) (plain_done (table_in ws)))

plain_common : (t : Table) (ws : List ℕ) → Plain (common_at t ws)
unfolding common_at
plain_common t ws =
    plain_if 100 (not (length ws =? 326)) (plain_if 102 (not (known_common t ws)) (plain_done (common_in ws)))

plain_node : (t : Table) (ws : List ℕ) → Plain (node_at t ws)
unfolding node_at
plain_node t ws =
    plain_if 100 (not (length ws =? 336)) (plain_if 102 (not (known_node t ws)) (plain_done (node_in ws)))

found_by : {A : Type 0} (a : Answer (Under A)) {t : Table} {x : A} → done (t, x) ≡ looked a → a ≡ under t x
found_by (done h) {t} {x} e =
    let s = sym (same_done e) in
    λ i. done (record { table = (s i).0; state = (s i).1 })
found_by (refused n) e = refused≢done (sym e)
found_by (refused_by n i) e = refused≢done (sym e)

-- what a look found, and what it was stopped by
module _ {A : Type 0} (at : Table → List ℕ → Answer A) (ts ws : List ℕ) where
  pub found : {t : Table} {x : A} → done (t, x) ≡ looked (looked_at at ts ws) → looked_at at ts ws ≡ under t x
  found = found_by (looked_at at ts ws)

  -- what was found went through both looks
  pub through : {t : Table} {x : A} → looked_at at ts ws ≡ under t x → (table_at ts ≡ done t) × (at t ws ≡ done x)
  unfolding looked_at
  through {t} {x} e =
      let a = passed_on (table_at ts) (λ t. at t ws >>= under t) e in
      let b = passed_on (at a.0 ws) (under a.0) a.2 in
      let s = same_done b.2 in
      let p : a.0 ≡ t = ap (λ (u : Under _). u.table) s in
      (a.1 ∙ ap done p, subst (λ (t : Table). at t ws ≡ done x) p (b.1 ∙ ap (λ (u : Under _). done u.state) s))

  halted : ((t : Table) → Plain (at t ws)) → {n : ℕ} → refused n ≡ looked (looked_at at ts ws) → looked_at at ts ws ≡ refused n
  unfolding looked_at
  halted p =
      plain_bad (λ h. (h.table, h.state)) (table_at ts >>= λ t. at t ws >>= under t)
      (plain_then (table_at ts) (λ t. at t ws >>= under t) (plain_table ts) (λ t. plain_then (at t ws) (under t) (p t) (λ x. plain_done (record { table = t; state = x }))))

module _ (ts ws : List ℕ) where
  pub unwatched : {n : ℕ} → refused n ≡ looked (watched_at ts ws) → watched_at ts ws ≡ refused n
  unwatched = halted common_at ts ws (λ t. plain_common t ws)

  pub unheld : {n : ℕ} → refused n ≡ looked (held_at ts ws) → held_at ts ws ≡ refused n
  unheld = halted node_at ts ws (λ t. plain_node t ws)

-- what was found is checked, was given back, and is as long as it must be
module _ (ts ws : List ℕ) {t : Table} where
  module _ {c : Common} (w : done (t, c) ≡ looked (watched_at ts ws)) where
    watched_through : (table_at ts ≡ done t) × (common_at t ws ≡ done c)
    watched_through = through common_at ts ws (found common_at ts ws w)

    pub watched_checked : Checked t
    watched_checked = at_checked ts watched_through.0

    pub watched_given : commons.Given t c
    watched_given = of_common.taken_given t ws watched_through.1

    pub watched_long : length ws ≡ 326
    watched_long = (of_common.taken watched_through.1).long

  module _ {m : Node} (w : done (t, m) ≡ looked (held_at ts ws)) where
    held_through : (table_at ts ≡ done t) × (node_at t ws ≡ done m)
    held_through = through node_at ts ws (found node_at ts ws w)

    pub held_checked : Checked t
    held_checked = at_checked ts held_through.0

    pub held_given : nodes.Given t m
    held_given = of_node.taken_given t ws held_through.1

    pub held_long : length ws ≡ 336
    held_long = (of_node.taken held_through.1).long
