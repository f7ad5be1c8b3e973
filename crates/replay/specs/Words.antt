-- What the words of the input say.
use Rattle.std.specs.Prelude.{◌≡◌, ℕ, List, ◌++◌, ℤ, codes, FitsSigned}
use Rattle.std.specs.Int.{w32}
use Rattle.std.specs.Str.Parse.{IsNumeral, without_leading_sign, signed_digits_value}
use Rattle.weigher.specs.declared.orders.Order.{Order}
use Rattle.weigher.specs.declared.orders.Order.TheVariants.{TareWhenStill, ZeroWhenStill, TareNow, ZeroNow, ClearTare, PresetTare, Settle}

-- a sign or none, then decimal digits, and the number fits 32 bits with its sign
abbrev pub IsNumber : List ℕ → Type 0
IsNumber t = IsNumeral 10 (without_leading_sign t) × FitsSigned w32 (signed_digits_value 10 t)

-- the text writes this number
abbrev pub Reads : List ℕ → ℤ → Type 0
Reads t v = IsNumber t × (v ≡ signed_digits_value 10 t)

-- the line names this order
abbrev pub Says : List ℕ → Order → Type 0
Says line TareWhenStill = line ≡ codes "tare-when-still"
Says line ZeroWhenStill = line ≡ codes "zero-when-still"
Says line TareNow = line ≡ codes "tare-now"
Says line ZeroNow = line ≡ codes "zero-now"
Says line ClearTare = line ≡ codes "clear-tare"
Says line (PresetTare v) = (t : List ℕ) × (line ≡ codes "preset-tare " ++ t) × Reads t v
Says line Settle = line ≡ codes "settle"
