use Rattle.std.proofs.Common.{arith}
use Rattle.std.proofs.lemmas.Int.{ints, to_z-of_z}
use Rattle.weigher.proofs.cell.is_close.Goals as goal

pub returns : goal.returns
returns c = grind (arith, ints, to_z-of_z)
