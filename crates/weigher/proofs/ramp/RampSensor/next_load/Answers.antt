-- The smaller or larger of two loads, which the search does not take apart by itself.
use Rattle.std.proofs.Common.{arith}
use Rattle.std.proofs.lemmas.Int.{ints, to_z-of_z}
use Rattle.weigher.proofs.ramp.RampSensor.next_load.Goals as goal

pub returns-then-load-target : goal.returns-then-load-target
returns-then-load-target c = grind (arith, ints, to_z-of_z)

pub returns : goal.returns
returns c = grind (arith, ints, to_z-of_z)
