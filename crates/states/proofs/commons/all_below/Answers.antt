-- What the chain folds to is the test.
use mathlib.Core.Bool.{true, ◌&&◌}
use Rattle.std.proofs.Common.{rules, tests, ltb, ◌∙◌}
use Rattle.std.proofs.lemmas.Iterator.{YieldsList-from_slice}
use Rattle.std.proofs.lemmas.Iterator.Consumers.{fold_from_yields_List}
use Rattle.states.proofs.Below.{below_folded}
use Rattle.states.proofs.commons.all_below.Goals as goal

pub returns : goal.returns
returns c =
    fold_from_yields_List _ (λ b x. b && ltb x c.args.limit) true c.fold.result c.fold.ensures.ran (YieldsList-from_slice c.args.words.now cc)
    (λ a x b q k. (search rules, search (rules, tests)))
    ∙ below_folded c.args.limit true c.args.words.now
