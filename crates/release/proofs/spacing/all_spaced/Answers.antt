-- `spacing::all_spaced` meets its contract: a release that comes in time leaves the rest as early as the whole, from the E after it.
use Rattle.std.proofs.Common.{arith, rules}
use Rattle.rules.specs.Close.{too_early}
use Rattle.release.specs.Spacing.{admission}
use Rattle.release.proofs.Releases.{release_here, distance_walked}
use Rattle.release.proofs.spacing.all_spaced.Goals as goal

pub loop-x-preserved : goal.loop-x-preserved
unfolding too_early admission
loop-x-preserved c = record {
  places = search rules;
  early = grind (arith, release_here, distance_walked);
  after = grind (arith, release_here, distance_walked);
}
