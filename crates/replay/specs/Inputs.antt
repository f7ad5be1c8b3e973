-- What an input says: settings on its first line, an order on its second, and a sample on each line after them.
use Rattle.std.specs.Prelude.{◌≡◌, ℕ, List, ◌∷◌, ◌++◌, ℤ, map, All}
use Rattle.std.specs.Str.Lines.{lines}
use Rattle.std.specs.Str.Parse.{signed_digits_value}
use Rattle.weigher.specs.declared.orders.Order.{Order}
use Rattle.replay.specs.Words.{IsNumber, Reads, Says}

-- a capacity and a tolerance, parted by one blank
pub record Settings (line : List ℕ) (capacity tolerance : ℤ) : Type 0 where
  pub first : List ℕ
  pub second : List ℕ
  pub cut : line ≡ first ++ (32 ∷ second)
  pub reads_capacity : Reads first capacity
  pub reads_tolerance : Reads second tolerance

-- what is recorded
pub record Contents : Type 0 where
  pub capacity : ℤ
  pub tolerance : ℤ
  pub order : Order
  pub samples : List ℤ

-- each of the lines writes a sample
abbrev pub Samples : List (List ℕ) → List ℤ → Type 0
Samples given samples = All IsNumber given × (samples ≡ map (signed_digits_value 10) given)

-- the input has a line for the settings, a line for the order, and one for each sample, and they say this; its lines are
-- the library's: each ends at a newline, which is no part of it, nor is a carriage return before that, and the last needs none
pub record Recorded (input : List ℕ) (r : Contents) : Type 0 where
  pub first : List ℕ
  pub second : List ℕ
  pub after : List (List ℕ)
  pub parted : lines input ≡ first ∷ (second ∷ after)
  pub settings : Settings first r.capacity r.tolerance
  pub order : Says second r.order
  pub samples : Samples after r.samples
