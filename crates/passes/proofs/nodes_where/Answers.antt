-- `passes::nodes_where` meets its contract. The invariant: the set has the nodes below `i`. Assumes nothing.
use mathlib.Core.Path.{◌≡◌, sym, ◌∙◌}
use Prim.Native.Nat.{ℕ, ◌+◌, ◌*◌, ◌%◌, ◌^◌, ◌<◌}
use native.Mathlib.Nat.{pow-suc}
use native.Mathlib.Numerals.{add-one}
use native.Mathlib.Omega.{arith}
use Rattle.std.specs.Int.Bits.{bit_or}
use Rattle.std.proofs.Math.Pow.{shl_exact}
use Rattle.std.proofs.lemmas.Nat.{or_comm, or_shifted, pow_pos}
use Rattle.laws.proofs.Folds.{bits_none, bits_with, bits_without}
use Rattle.passes.specs.Classed.{no_class}
use Rattle.passes.proofs.nodes_where.Goals as goal
use Rattle.passes.proofs.nodes_where.Goals.{then-member, else-member}

-- a bit above those of a set
module _ {s : ℕ} (i : ℕ) (h : s < 2 ^ i) where
  below : s + 2 ^ i < 2 ^ (i + 1)
  below = rw (add-one i, pow-suc 2 i) (omega arith)

  with : i < 16 → bit_or s (1 * 2 ^ i % 65536) ≡ s + 2 ^ i
  with p = rw (shl_exact {a = 1} 1 i 16 (omega arith) (omega arith)) (or_comm s (1 * 2 ^ i) ∙ or_shifted 1 i s h ∙ omega arith)

pub loop-i-init : goal.loop-i-init
loop-i-init g c = (pow_pos 0, λ test t. sym (bits_none test c.args.entries.now))

pub loop-i-preserved : goal.loop-i-preserved
loop-i-preserved g c =
    let i = c.loop-i.i in
    let l = c.args.entries.now in
    let h = c.loop-i.invariant in
    elim c.if-member.branch [
      | then-member w ↦
          let e = w.set-is ∙ with i h.0 (omega (arith, c.loop-i-test.true, c.requires.few)) in
          (rw e (below i h.0), λ test t. e ∙ rw (h.1 test t) (sym (bits_with test l i no_class c.loop-i-test.true (sym (t _ _ c.member.ensures) ∙ w.if-member.true))))
      | else-member w ↦
          (rw w.set-is (omega (arith, h.0, below i h.0)), λ test t. w.set-is ∙ h.1 test t ∙ sym (bits_without test l i no_class c.loop-i-test.true (sym (t _ _ c.member.ensures) ∙ w.if-member.false)))
    ]
