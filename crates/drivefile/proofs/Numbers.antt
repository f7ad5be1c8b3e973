-- Four bytes as a signed number.
use Rattle.std.proofs.Common.{◌≡◌, ℕ, ◌<◌, List, ◌+◌, get_or, arith, w32, to_z}
use Rattle.std.proofs.lemmas.Int.{ints}
use Rattle.std.proofs.lemmas.Bool.Decides.{nat_tests}
use Rattle.drivefile.specs.Heads.{number_at, signed}

pub signed_is : (n : ℕ) → n < 4294967296 → to_z w32 n ≡ signed n
signed_is n h = grind (arith, ints, nat_tests)

pub number_fits : (b : List ℕ) (i : ℕ) → ((k : ℕ) → get_or b k 0 < 256) → number_at b i < 4294967296
number_fits b i h = omega (arith, h i, h (i + 1), h (i + 2), h (i + 3))
