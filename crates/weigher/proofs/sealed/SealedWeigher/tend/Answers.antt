-- The weigher below does the tend, which does not look at the known orders.
use Rattle.weigher.proofs.Known.{worked_sealed}
use Rattle.weigher.proofs.sealed.SealedWeigher.tend.Goals as goal

pub returns : goal.returns
returns g c =
    let m = g.W.Weigher.kind.meaning in
    record {
      work = worked_sealed (m c.args.self.now.below) (m c.tend.new.self) c.tend.result c.tend.ensures.work;
      sensor = c.tend.ensures.sensor;
    }
