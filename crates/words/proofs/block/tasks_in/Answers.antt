-- 256 bytes copied out of words.
use Rattle.std.proofs.Common.{arith, ◌≡◌, ◌+◌, ◌-◌, ◌≤◌, ℕ, List, get_or, length, take, drop, sym, ◌∙◌}
use Rattle.std.proofs.lemmas.List.{ext_get_or, length-drop, length-take-le, length-set}
use Rattle.std.proofs.lemmas.List.Edits.{fill_by_more}
use Rattle.words.proofs.block.tasks_in.Goals as goal

-- the words looked at
abbrev looked_at : List ℕ → ℕ → List ℕ
looked_at words from = take (from + 256 - from) (drop from words)

count : (words : List ℕ) (from : ℕ) → from + 256 ≤ length words → length (looked_at words from) ≡ 256
count words from room =
    let n : from + 256 - from ≡ 256 = omega arith in
    rw n (length-take-le 256 (drop from words) (rw length-drop (omega arith)))

pub loop-i-preserved : goal.loop-i-preserved
loop-i-preserved c =
    let v = c.loop-i.invariant in
    let n = count c.args.words.now c.args.from c.requires.from_in_bounds in
    record {
      places = rw length-set v.places;
      copied = fill_by_more (λ (k : ℕ). get_or (looked_at c.args.words.now c.args.from) k 0) c.loop-i.out c.loop-i.i 0 (omega (arith, n, v.places, c.loop-i-test.true)) v.copied;
    }

pub returns : goal.returns
returns c =
    let v = c.loop-i.invariant in
    let n = count c.args.words.now c.args.from c.requires.from_in_bounds in
    let e : c.args.from + 256 - c.args.from ≡ 256 = omega arith in
    rw e at (ext_get_or 0 c.loop-i.out (looked_at c.args.words.now c.args.from) (v.places ∙ sym n) (λ k h. v.copied k (omega (arith, n, v.places, c.loop-i-test.false))))
