-- The laws are shown once, for every proof that wants them.
use Rattle.wire.proofs.Steps.{nearest}
use Rattle.wire.proofs.laws.rounding_laws.Goals as goal

pub returns : goal.returns
returns c = nearest
