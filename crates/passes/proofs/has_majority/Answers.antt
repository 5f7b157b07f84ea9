-- `passes::has_majority` meets its contract: as many bits are set as nodes count. Assumes nothing.
use mathlib.Core.Path.{ap, ◌∙◌}
use lib.Count.{ones}
use lib.ListN.{take}
use borrow.Author.Rules.{rules}
use Prim.Native.Nat.{◌+◌, ◌/◌}
use Rattle.laws.specs.Tests.{◌≤?◌}
use Rattle.laws.proofs.Folds.{ones_bits}
use Rattle.passes.specs.declared.Classed.{Classed}
use Rattle.passes.specs.Classed.{in_front}
use Rattle.passes.proofs.has_majority.Goals as goal

pub returns : goal.returns
returns c =
    let test = λ (x : Classed). in_front x.class in
    let e = c.nodes_where-set.ensures test (λ x r p. search rules) in
    ap (λ n. c.args.nodes / 2 + 1 ≤? n) (c.from-counted.ensures ∙ ap ones e ∙ ones_bits test (take c.args.n c.args.all))
