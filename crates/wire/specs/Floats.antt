-- Whole numbers as 32-bit floats, and which bit patterns stand for a whole number.
use Rattle.std.specs.Prelude.{ℕ, ◌*◌, ◌/◌, ◌%◌, ◌≤◌, Bool, true, false, cond, ◌&&◌, T, ℤ, pos, neg_ℤ, Some, None, Option, ◌==◌, from_bits, nat_le, to_bits, unsigned_abs, Float}
use Rattle.std.specs.Float.{nan, inf, fin, binary32}
use Rattle.std.specs.Float.Ieee.{up, down, eq, of_int}

-- the largest whole number that a parameter or a weight can be, either way
abbrev pub largest : ℕ
largest = 16777215

abbrev pub signed : Bool → ℕ → ℤ
signed true n = neg_ℤ (pos n)
signed false n = pos n

-- the whole number that a float is, if it is one and no larger than `largest`; minus zero is 0
abbrev pub whole_float : Float → Option ℤ
whole_float nan = None
whole_float (inf s) = None
whole_float (fin s m e) =
    cond (m * up e % down e == 0 && nat_le (m * up e / down e) largest) (Some (signed s (m * up e / down e))) None

-- the same of a float given by its bits
unfoldable pub whole_of : ℕ → Option ℤ
whole_of bits = whole_float (from_bits binary32 bits)

-- the bits that a whole number is sent as
abbrev pub bits_of : ℤ → ℕ
bits_of z = to_bits binary32 (of_int binary32 z)

-- the bits stand for a number that equals z, and z is not too large
abbrev pub Whole : ℕ → ℤ → Type 0
Whole bits z = (unsigned_abs z ≤ largest) × T (eq (of_int binary32 z) (from_bits binary32 bits))
