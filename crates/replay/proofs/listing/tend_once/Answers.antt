use Rattle.weigher.specs.Bases.{scale_of}
use Rattle.replay.proofs.Steps.{tended_by}
use Rattle.replay.proofs.listing.tend_once.Goals as goal

pub returns-clause-told : goal.returns-clause-told
returns-clause-told c = tended_by _ _ _ (scale_of c.args.cell.now.base) (scale_of c.tend-told.new.self.base) c.tend-told.result c.tend-told.ensures.work c.tend-told.ensures.sensor.moves
