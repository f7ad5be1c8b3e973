-- A weigher with one sensor, as a kind: what it weighs is in the part that all such weighers share, and only a tend touches the sensor.
use Rattle.std.specs.Prelude.{◌≡◌, ℕ, Bool, ℤ}
use Rattle.weigher.specs.declared.single.Single.{Single}
use Rattle.weigher.specs.Bases.{scale_of}
use Rattle.weigher.specs.Kind.{Kind}
use Rattle.weigher.specs.Scale.{Scale}

-- what a sensor does in one tend: from the sensor and the load before it to the sensor, load, stillness and fault after it
abbrev pub Senses : Type 0 → Type 1
Senses S = S → ℤ → S → ℤ → Bool → Bool → Type 0

abbrev pub single_scale : {S : Type 0} → Single S → Scale
single_scale w = scale_of w.base

abbrev pub single_moves : {S : Type 0} → Senses S → Single S → Single S → Type 0
single_moves senses a b = senses a.sensor a.base.load.grams b.sensor b.base.load.grams b.base.still b.base.fault

abbrev pub single_kind : {S : Type 0} → Senses S → ℕ → Kind (Single S)
single_kind senses p = record { meaning = single_scale; moves = single_moves senses; keeps = λ a b. b.sensor ≡ a.sensor; patience = p }
