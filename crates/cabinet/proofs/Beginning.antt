-- A table checked, and states at the start, at the doors: what each comes to.
use mathlib.Core.Path.{◌≡◌, refl, sym, ap, ◌∙◌}
use mathlib.Core.List.{List}
use Prim.Native.Nat.{ℕ}
use borrow.Author.Tests.{eq-eqb, ne_eqb}
use lib.ListN.{length}
use lib.Seq.{sets}
use Rattle.laws.specs.Tests.{◌≤?◌}
use Rattle.laws.specs.Lists.{pad}
use Rattle.rules.specs.Answer.{Answer, done, refused, refused_by}
use Rattle.rules.specs.Table as tables
use Rattle.rules.specs.Common as commons
use Rattle.rules.specs.Node as nodes
use Rattle.refusal.specs.Refusal.{told_as}
use Rattle.refusal.proofs.Answers.{done_same, done_refused}
use Rattle.table.specs.declared.Table.{Table}
use Rattle.table.specs.Table.{table_of}
use Rattle.common.specs.declared.Common.{Common}
use Rattle.common.specs.Common.{common_as}
use Rattle.node.specs.declared.Node.{Node}
use Rattle.node.specs.Node.{node_as}
use Rattle.words.specs.Table.{table_in, table_at}
use Rattle.states.specs.Common.{common_words}
use Rattle.cabinet.specs.Fresh.{check_door, fresh_common_door, fresh_node_door}
use Rattle.cabinet.proofs.Plain.{Plain, plain_done, plain_if, plain_bad}
use Rattle.cabinet.proofs.Replies.{written_whole}

module _ (ts : List ℕ) where
  pub check_unfit : (length ts ≡ 259 → ⊥) → check_door ts ≡ refused 100
  unfolding check_door
  check_unfit h = rw (ne_eqb (length ts) 259 h)

  pub check_fit : length ts ≡ 259 → {t : Table} → t ≡ table_in ts → check_door ts ≡ tables.check (table_of t)
  unfolding check_door
  check_fit l q = rw (eq-eqb (length ts) 259 l, q)

fresh_long : length (common_words (common_as commons.fresh)) ≡ 326
unfolding common_words pad
fresh_long = refl

module _ (cs : List ℕ) where
  pub common_unfit : (length cs ≡ 326 → ⊥) → fresh_common_door cs ≡ refused 100
  unfolding fresh_common_door
  common_unfit h = rw (ne_eqb (length cs) 326 h)

  module _ (l : length cs ≡ 326) where
    pub common_fit : fresh_common_door cs ≡ done commons.fresh
    unfolding fresh_common_door
    common_fit = rw (eq-eqb (length cs) 326 l)

    pub common_written : {c : Common} → c ≡ common_as commons.fresh → {after : List ℕ} → after ≡ sets cs 0 (common_words c) → after ≡ common_words (common_as commons.fresh)
    common_written d q = written_whole cs (common_words (common_as commons.fresh)) (l ∙ sym fresh_long) (q ∙ ap (λ (c : Common). sets cs 0 (common_words c)) d)

plain_fresh : (tab : tables.Table) (i : ℕ) → Plain (nodes.fresh_node tab i)
unfolding nodes.fresh_node
plain_fresh tab i = plain_if 1 (tab.m ≤? i) (plain_done (nodes.new_node i))

module _ (ts ns : List ℕ) (i : ℕ) where
  abbrev door : Answer nodes.Node
  door = fresh_node_door ts ns i

  pub node_stopped : {n : ℕ} → refused n ≡ table_at ts → door ≡ refused n
  unfolding fresh_node_door
  node_stopped e = rw (sym e)

  module _ {t : Table} (e : done t ≡ table_at ts) where
    pub node_unfit : (length ns ≡ 336 → ⊥) → door ≡ refused 100
    unfolding fresh_node_door
    node_unfit h = rw (sym e, ne_eqb (length ns) 336 h)

    module _ (l : length ns ≡ 336) where
      at_node : door ≡ nodes.fresh_node (table_of t) i
      unfolding fresh_node_door
      at_node = rw (sym e, eq-eqb (length ns) 336 l)

      pub node_refused : {n : ℕ} → refused n ≡ told_as node_as (nodes.fresh_node (table_of t) i) → door ≡ refused n
      node_refused d = at_node ∙ plain_bad node_as (nodes.fresh_node (table_of t) i) (plain_fresh (table_of t) i) d

      pub node_made : {m : Node} → done m ≡ told_as node_as (nodes.fresh_node (table_of t) i) → (x : nodes.Node) × (door ≡ done x) × (m ≡ node_as x)
      node_made {m} d = rw at_node (by (nodes.fresh_node (table_of t) i) d)
        where
          by : (a : Answer nodes.Node) → done m ≡ told_as node_as a → (x : nodes.Node) × (a ≡ done x) × (m ≡ node_as x)
          by (done x) e = (x, refl, done_same e)
          by (refused n) e = absurd (done_refused e)
          by (refused_by n j) e = absurd (done_refused e)
