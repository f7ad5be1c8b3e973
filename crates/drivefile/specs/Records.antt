-- The records of a drive file: their kinds, the lengths of their bodies, their turn, and the faults in reading one.
use Rattle.std.specs.Prelude.{ℕ, ◌+◌, Bool, cond, ◌||◌, List, length, take, drop, Some, None, Option, ◌==◌, nat_le, nat_lt, slice_index}
use Rattle.drivefile.specs.declared.record.Turn.{Turn}
use Rattle.drivefile.specs.declared.record.Turn.TheVariants.{First, Second, Later}

-- settings (kind 1) have 3 bytes, a ramp (5) 12, an image (2) 8, an acyclic read (4) 4, the end (0) none
abbrev pub body_length : ℕ → Option ℕ
body_length k =
    cond (k == 1) (Some 3)
    (cond (k == 5) (Some 12)
    (cond (k == 2) (Some 8)
    (cond (k == 4) (Some 4)
    (cond (k == 0) (Some 0) None))))

-- the kinds that are allowed first, second and later
abbrev pub allowed : Turn → ℕ → Bool
allowed First k = k == 1
allowed Second k = k == 5
allowed Later k = k == 2 || (k == 4 || k == 0)

-- what is found where a record must stand: one with its kind and body, or a fault with its number and place
pub data Found : Type 0 where
  entry : ℕ → List ℕ → Found
  fault : ℕ → ℕ → Found

-- a record at p whose kind has a body of n bytes
abbrev pub found_body : Turn → List ℕ → ℕ → Option ℕ → Found
found_body turn file p None = fault 31 p
found_body turn file p (Some n) =
    cond (allowed turn (slice_index file p))
    (cond (nat_le (p + 1 + n) (length file)) (entry (slice_index file p) (take n (drop (p + 1) file))) (fault 32 p))
    (fault 33 p)

abbrev pub found_at : Turn → List ℕ → ℕ → Found
found_at turn file p = cond (nat_lt p (length file)) (found_body turn file p (body_length (slice_index file p))) (fault 32 (length file))
