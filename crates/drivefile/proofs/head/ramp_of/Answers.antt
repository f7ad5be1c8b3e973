-- A ramp is refused with 44 and no other number.
use Rattle.std.proofs.Common.{rules}
use Rattle.drivefile.proofs.Finds.{ramp_44}
use Rattle.drivefile.proofs.head.ramp_of.Goals as goal

pub returns : goal.returns
returns c = search (rules, ramp_44)
