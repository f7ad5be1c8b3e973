-- What an order does to a block of eight bytes: four words, the first two of them the value's.
use Rattle.std.specs.Prelude.{ℕ, ◌+◌, ◌-◌, ◌*◌, ◌/◌, ◌%◌, Bool, true, false, cond, ◌&&◌, List, [], ◌∷◌, nat_lt, slice_index}
use Rattle.wire.specs.declared.order.Order.{Order}
use Rattle.wire.specs.declared.order.Order.TheVariants.{Plain, BytesSwapped, WordsSwapped, BothSwapped}

-- the low byte of each word comes first
abbrev pub swaps_bytes : Order → Bool
swaps_bytes Plain = false
swaps_bytes BytesSwapped = true
swaps_bytes WordsSwapped = false
swaps_bytes BothSwapped = true

-- the low word of a float comes first
abbrev pub swaps_words : Order → Bool
swaps_words Plain = false
swaps_words BytesSwapped = false
swaps_words WordsSwapped = true
swaps_words BothSwapped = true

-- the same byte of the value's other word, and the other byte of the same word
abbrev pub other_word : ℕ → ℕ
other_word i = (i + 2) % 4

abbrev pub other_byte : ℕ → ℕ
other_byte i = i / 2 * 2 + (1 - i % 2)

-- where the byte that stands at i in order 0 stands in the order o, and back
abbrev pub place : Order → ℕ → ℕ
place o i =
    let at = cond (swaps_words o && nat_lt i 4) (other_word i) i in
    cond (swaps_bytes o) (other_byte at) at

-- the eight bytes b turned from order 0 to the order o, and back
abbrev pub ordered : Order → List ℕ → List ℕ
ordered o b = from 0 ∷ from 1 ∷ from 2 ∷ from 3 ∷ from 4 ∷ from 5 ∷ from 6 ∷ from 7 ∷ []
  where
    from : ℕ → ℕ
    from i = slice_index b (place o i)
