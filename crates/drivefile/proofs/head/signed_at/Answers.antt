use Rattle.std.proofs.Common.{◌∙◌, w32}
use Rattle.std.proofs.lemmas.Int.{to_z-of_z}
use Rattle.drivefile.specs.Heads.{number_at}
use Rattle.drivefile.proofs.Numbers.{signed_is, number_fits}
use Rattle.drivefile.proofs.head.signed_at.Goals as goal

pub returns : goal.returns
returns c =
    let n = c.from_be_bytes in
    to_z-of_z w32 n.result (record { sfits = n.type_inv }) ∙ n.ensures ∙ signed_is (number_at c.args.body.now c.args.place) (number_fits c.args.body.now c.args.place c.fits-body)
