-- The first two records of a drive file: settings and a ramp.
use Rattle.std.specs.Prelude.{ℕ, ◌+◌, ◌*◌, cond, List, ℤ, pos, ◌-ℤ◌, nat_lt, slice_index}

-- a byte for the order, and two for the increment
abbrev pub order_in : List ℕ → ℕ
order_in body = slice_index body 0

abbrev pub increment_in : List ℕ → ℕ
increment_in body = slice_index body 1 * 256 + slice_index body 2

-- four bytes as a number, the high ones first
abbrev pub number_at : List ℕ → ℕ → ℕ
number_at body i = slice_index body i * 16777216 + slice_index body (i + 1) * 65536 + slice_index body (i + 2) * 256 + slice_index body (i + 3)

-- the same as a signed number
abbrev pub signed : ℕ → ℤ
signed n = cond (nat_lt n 2147483648) (pos n) (pos n -ℤ pos 4294967296)

abbrev pub start_in : List ℕ → ℤ
start_in body = signed (number_at body 0)

abbrev pub step_in : List ℕ → ℤ
step_in body = signed (number_at body 4)

abbrev pub target_in : List ℕ → ℤ
target_in body = signed (number_at body 8)
