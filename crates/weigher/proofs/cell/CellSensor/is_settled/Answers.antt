use Rattle.std.proofs.Common.{◌≡◌, ◌-◌, arith}
use Rattle.std.proofs.lemmas.Int.{to_z-of_z}
use Rattle.std.proofs.lemmas.Bool.Decides.{nat_tests}
use Rattle.weigher.proofs.cell.CellSensor.is_settled.Goals as goal

pub returns : goal.returns
returns c =
    let n = c.args.self.now.taken in
    let eight : n - (n - 8) ≡ 8 = omega arith in
    grind (arith, to_z-of_z, nat_tests)
