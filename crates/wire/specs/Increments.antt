-- The increments that a board can be given: 1, 2 or 5 times 1, 10 or 100, or 1,000 grams.
use Rattle.std.specs.Prelude.{ℕ, ◌*◌, Bool, ◌||◌, ◌==◌}

-- d is 1, 2 or 5 times k
abbrev pub one_two_five : ℕ → ℕ → Bool
one_two_five k d = d == k || (d == 2 * k || d == 5 * k)

unfoldable pub listed : ℕ → Bool
listed d = one_two_five 1 d || (one_two_five 10 d || (one_two_five 100 d || d == 1000))
