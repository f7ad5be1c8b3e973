-- A weight shown in steps of d grams: the nearest multiple of d, a half going away from zero.
use Rattle.std.specs.Prelude.{◌≡◌, ℕ, suc, ◌+◌, ◌*◌, ◌/◌, ◌%◌, ◌<◌, ◌≤◌, ℤ, pos, negsuc, ◌-ℤ◌, neg_ℤ, unsigned_abs}

-- how many steps of d grams are nearest to a grams
abbrev pub steps : ℕ → ℕ → ℕ
steps d a = (2 * a + d) / (2 * d)

-- sign (n) × d × steps, and plain 0 where there are no steps
unfoldable pub rounded : ℕ → ℤ → ℤ
rounded d (pos a) = pos (d * steps d a)
rounded d (negsuc a) = neg_ℤ (pos (d * steps d (suc a)))

-- what makes r the rounding of n to steps of d
pub record Nearest (d : ℕ) (n r : ℤ) : Type 0 where
  -- r is a multiple of d
  pub multiple : unsigned_abs r % d ≡ 0
  -- r is within half of d of n
  pub within : 2 * unsigned_abs (r -ℤ n) ≤ d
  -- where two multiples are as near, r is the one farther from zero
  pub away : 2 * unsigned_abs (r -ℤ n) ≡ d → unsigned_abs n < unsigned_abs r
  -- below zero as above
  pub mirrored : rounded d (neg_ℤ n) ≡ neg_ℤ r
  -- a multiple of d stays
  pub stays : unsigned_abs n % d ≡ 0 → r ≡ n
