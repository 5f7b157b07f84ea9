-- The common record, and the words before it: a lemma for each way out behind the words' length.
use mathlib.Core.Path.{◌≡◌, sym, ap, ◌∙◌}
use mathlib.Core.Bool.{Bool, true, false, and-true}
use mathlib.Core.List.{List, [], ◌∷◌}
use Prim.Native.Nat.{ℕ, ◌+◌, ◌-◌}
use native.Mathlib.Omega.{arith}
use mir.Syntax.{w64}
use mir.Val.{Fits}
use borrow.Author.Tests.{eq-eqb}
use lib.ListN.{length, take, drop, length-drop}
use lib.Seq.{take_all}
use Rattle.laws.specs.Tests.{all_of}
use Rattle.rules.specs.Answer.{done, refused}
use Rattle.table.specs.declared.Table.{Table}
use Rattle.common.specs.declared.Common.{Common}
use Rattle.common.proofs.Records.{numbers}
use Rattle.node.specs.declared.Node.{Node}
use Rattle.states.specs.Common.{common_in, common_at}
use Rattle.states.specs.Node.{node_in, known_before, known_node, node_at}
use Rattle.states.proofs.Common.{taken, taken_given, unknown_else}
use Rattle.states.proofs.nodes.node_in.Goals as goal

module _ (t : Table) (ws : List ℕ) (long : length ws ≡ 336) where
  part_long : length (drop 10 ws) ≡ 326
  part_long = rw length-drop (omega arith)

  part : take (length ws - 10) (drop 10 ws) ≡ drop 10 ws
  part = take_all (length ws - 10) (drop 10 ws) (omega (arith, part_long))

  refuses : known_node t ws ≡ false → refused 102 ≡ node_at t ws
  unfolding node_at
  refuses h = rw (eq-eqb (length ws) 336 long, h)

  no_common : {n : ℕ} → refused n ≡ common_at t (take (length ws - 10) (drop 10 ws)) → refused 102 ≡ node_at t ws
  unfolding known_node all_of
  no_common p = refuses (rw (unknown_else t (drop 10 ws) part_long (p ∙ ap (common_at t) part)))

  module _ {c : Common} (p : done c ≡ common_at t (take (length ws - 10) (drop 10 ws))) where
    is_done : common_at t (drop 10 ws) ≡ done c
    is_done = sym (p ∙ ap (common_at t) part)

    last_fits : Fits w64 (c.base + c.count)
    last_fits = record { fits = omega (arith, (numbers (taken_given t (drop 10 ws) is_done)).length_below) }

    common_is : c ≡ common_in (drop 10 ws)
    common_is = sym (taken is_done).is

    module _ {b : Bool} (q : b ≡ known_before t.nodes (c.base + c.count) ws) where
      tested : known_node t ws ≡ b
      unfolding known_node all_of
      tested =
          rw (taken is_done).known (ap (λ (b : Bool). all_of (b ∷ [])) (ap (λ (c : Common). known_before t.nodes (c.base + c.count) ws) (sym common_is) ∙ sym q) ∙ and-true b)

      not_known : b ≡ false → refused 102 ≡ node_at t ws
      not_known h = refuses (tested ∙ h)

      is_known : b ≡ true → {n : Node} → n ≡ node_in ws → done n ≡ node_at t ws
      unfolding node_at
      is_known h e = rw (eq-eqb (length ws) 336 long, tested, h, e)

pub returns-in_default : goal.returns-in_default
returns-in_default c = no_common c.args.t c.args.words.now c.if-words-ne336.false c.in_default.ensures

pub overflow_add-common : goal.overflow_add-common
overflow_add-common c = last_fits c.args.t c.args.words.now c.if-words-ne336.false c.in-Ok.ensures

pub returns-then-not-known_before : goal.returns-then-not-known_before
returns-then-not-known_before c = not_known c.args.t c.args.words.now c.if-words-ne336.false c.in-Ok.ensures c.known_before.ensures c.if-not-known_before.true

pub record_in-requires : goal.record_in-requires
record_in-requires c = (c.if-words-ne336.false, common_is c.args.t c.args.words.now c.if-words-ne336.false c.in-Ok.ensures)

pub returns : goal.returns
returns c = is_known c.args.t c.args.words.now c.if-words-ne336.false c.in-Ok.ensures c.known_before.ensures c.if-not-known_before.false c.record_in.ensures
