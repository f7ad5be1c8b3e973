-- A kind of weigher, as those above it see it: its meaning, its patience, and what its sensor may do.
use Rattle.std.specs.Prelude.{ℕ, ◌≤◌}
use Rattle.weigher.specs.Scale.{Scale, Sound}

pub record Kind (W : Type 0) : Type 1 where
  pub meaning : W → Scale
  -- what the sensor does in one tend, from the weigher before it to the weigher after it
  pub moves : W → W → Type 0
  -- what begin and drop leave of the sensor
  pub keeps : W → W → Type 0
  -- the most tends that an order can take
  pub patience : ℕ

-- what holds of every kind
pub record IsLawful {W : Type 0} (k : Kind W) : Type 0 where
  pub patient : 1 ≤ k.patience
  pub bounded : k.patience ≤ 250
  pub sound : (w : W) → Sound (k.meaning w)
  pub reflexive : (w : W) → k.keeps w w
  pub transitive : (a b c : W) → k.keeps a b → k.keeps b c → k.keeps a c
