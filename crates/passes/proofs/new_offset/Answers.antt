-- `passes::new_offset` meets its contract: the chain takes the largest from the first entry on. Assumes nothing.
use mathlib.Core.Path.{◌≡◌, ◌∙◌}
use mathlib.Core.List.{map}
use Prim.Native.Nat.{max}
use lib.ListN.{take}
use borrow.Author.Rules.{rules}
use Rattle.std.specs.List.{fold}
use Rattle.std.proofs.iter.runs.Made.{chains}
use Rattle.passes.specs.declared.Classed.{Classed}
use Rattle.passes.proofs.Chains.{max_each}
use Rattle.passes.proofs.new_offset.Goals as goal

pub returns : goal.returns
returns c =
    let e : c.fold.result ≡ fold max c.args.offset (map (λ (x : Classed). x.front) (take c.args.n c.args.all)) = search (rules, chains) in
    e ∙ max_each (λ (x : Classed). x.front) c.args.offset (take c.args.n c.args.all)
