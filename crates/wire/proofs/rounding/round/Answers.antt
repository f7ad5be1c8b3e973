-- What equals the rounded weight is the nearest multiple.
use Rattle.std.proofs.Common.{arith}
use Rattle.std.proofs.lemmas.Grind.{common_steps}
use Rattle.wire.specs.Rounding.{rounded}
use Rattle.wire.proofs.Steps.{is_nearest, listed_range}
use Rattle.wire.proofs.rounding.round.Goals as goal

pub returns-then-weight-lt0-clause-nearest : goal.returns-then-weight-lt0-clause-nearest
unfolding rounded
returns-then-weight-lt0-clause-nearest c = is_nearest _ c.args.increment.known _ _ (grind (arith, common_steps, listed_range))

pub returns-else-weight-lt0-clause-nearest : goal.returns-else-weight-lt0-clause-nearest
unfolding rounded
returns-else-weight-lt0-clause-nearest c = is_nearest _ c.args.increment.known _ _ (grind (arith, common_steps, listed_range))
