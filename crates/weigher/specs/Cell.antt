-- What a cell does: each tend takes the next sample, and the latest eight samples say whether it is still.
use Rattle.std.specs.Prelude.{◌≡◌, ℕ, ◌+◌, ◌-◌, ◌<◌, ◌≤◌, Bool, cond, not, ◌&&◌, List, length, take, drop, ℤ, pos, negsuc, ◌-ℤ◌, ◌≤ℤ◌, Some, None, fold, Option, int_le, nat_le, nat_lt, slice_index_or, unsigned_abs}
use Rattle.std.specs.Int.{int_min, int_max}

-- the capacity is 1 to 4,000,000, else 45; then the tolerance is 0 to 1,000, else 46
abbrev pub cell_refusal : ℤ → ℤ → Option ℕ
cell_refusal c t = cond (int_le (pos 1) c && int_le c (pos 4000000)) (cond (int_le (pos 0) t && int_le t (pos 1000)) None (Some 46)) (Some 45)

-- every sample is within ±4,000,000, and any two of them lie within the tolerance
pub record Steady (tolerance : ℤ) (xs : List ℤ) : Type 0 where
  pub in_range : (i : ℕ) → i < length xs → unsigned_abs (slice_index_or xs i (pos 0)) ≤ 4000000
  pub near : (i j : ℕ) → i < length xs → j < length xs → (slice_index_or xs i (pos 0) -ℤ slice_index_or xs j (pos 0)) ≤ℤ tolerance

-- the smallest and the largest of some samples; where all are in range, the limits that each begins with change nothing
abbrev pub smallest : List ℤ → ℤ
smallest xs = fold int_min (pos 4000000) xs

abbrev pub largest : List ℤ → ℤ
largest xs = fold int_max (negsuc 3999999) xs

-- both lie within ±4,000,000, and the larger is at most the tolerance above the smaller
abbrev pub close : ℤ → ℤ → ℤ → Bool
close tolerance low high = int_le (negsuc 3999999) low && (int_le high (pos 4000000) && int_le (high -ℤ low) tolerance)

-- all of the samples are in range, and largest − smallest is at most the tolerance
abbrev pub steady : ℤ → List ℤ → Bool
steady tolerance xs = close tolerance (smallest xs) (largest xs)

-- after n samples: eight of them exist, and the latest eight are steady
abbrev pub settled : ℤ → List ℤ → ℕ → Bool
settled tolerance xs n = nat_le 8 n && steady tolerance (take 8 (drop (n - 8) xs))

-- after n samples there is one more, and it is within ±4,000,000
abbrev pub readable : List ℤ → ℕ → Bool
readable xs n = nat_lt n (length xs) && nat_le (unsigned_abs (slice_index_or xs n (pos 0))) 4000000

-- how many samples have been taken after one more tend
abbrev pub taken_next : List ℤ → ℕ → ℕ
taken_next xs n = cond (nat_lt n (length xs)) (n + 1) n

-- what the tend of a cell that had taken n samples reads, after this load
pub record CellMoves (tolerance : ℤ) (xs : List ℤ) (n : ℕ) (before after : ℤ) (still fault : Bool) : Type 0 where
  pub fault_read : fault ≡ not (readable xs n)
  pub load : after ≡ cond (readable xs n) (slice_index_or xs n (pos 0)) before
  pub still_read : still ≡ (readable xs n && settled tolerance xs (n + 1))
