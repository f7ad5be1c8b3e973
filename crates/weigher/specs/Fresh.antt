-- A new cell or ramp: moving and without fault, zero and tare 0, no order standing, all seven orders known.
use Rattle.std.specs.Prelude.{ℕ, true, false, ℤ, pos, None}
use Rattle.weigher.specs.Scale.{Scale}

abbrev pub fresh : ℤ → ℕ → Scale
fresh l c = record { load = l; zero = pos 0; tare = pos 0; still = false; fault = false; standing = None; capacity = c; knows = λ _. true }
