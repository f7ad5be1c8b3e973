-- The ramp as a kind of weigher: what its sensor does in a tend.
use Rattle.std.specs.Prelude.{◌≡◌, Bool, ℤ}
use Rattle.weigher.specs.declared.ramp.RampSensor.{RampSensor}
use Rattle.weigher.specs.declared.single.Single.{Single}
use Rattle.weigher.specs.Kind.{Kind}
use Rattle.weigher.specs.Ramp.{RampMoves}
use Rattle.weigher.specs.Singles.{single_kind}

abbrev pub Ramp : Type 0
Ramp = Single RampSensor

-- step and target stay
abbrev pub RampSenses : RampSensor → ℤ → RampSensor → ℤ → Bool → Bool → Type 0
RampSenses a before b after still fault = (b ≡ a) × RampMoves a.step a.target.grams before after still fault

abbrev pub ramp_kind : Kind Ramp
ramp_kind = single_kind RampSenses 50
