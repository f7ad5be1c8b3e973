-- A measuring block word by word: the bytes of a word, the two words of a value, and the fields of an image.
use Rattle.std.specs.Prelude.{ℕ, ◌+◌, ◌*◌, ◌/◌, ◌%◌, cond, List, [], ◌∷◌, ◌++◌, slice_index}
use Rattle.wire.specs.declared.order.Order.{Order}
use Rattle.wire.specs.Orders.{swaps_bytes, swaps_words}

-- a word's two bytes: the high one first, or the low one
abbrev pub word_bytes : Order → ℕ → List ℕ
word_bytes o w = cond (swaps_bytes o) (w % 256) (w / 256 % 256) ∷ cond (swaps_bytes o) (w / 256 % 256) (w % 256) ∷ []

-- the two words of a float's bits: the high one first, or the low one
abbrev pub halves_of : Order → ℕ → ℕ × ℕ
halves_of o v = (cond (swaps_words o) (v % 65536) (v / 65536), cond (swaps_words o) (v / 65536) (v % 65536))

-- the four bytes of a float
unfoldable pub strip_bytes : Order → ℕ → List ℕ
strip_bytes o v = word_bytes o (halves_of o v).0 ++ word_bytes o (halves_of o v).1

-- the image of a measuring block read: the value's bits, then the status word, then the response word
unfoldable pub read_image : Order → ℕ → ℕ → ℕ → List ℕ
unfolding strip_bytes
read_image o v status response = strip_bytes o v ++ (word_bytes o status ++ word_bytes o response)

-- word k of an image
abbrev pub word_at : Order → List ℕ → ℕ → ℕ
word_at o b k =
    cond (swaps_bytes o) (slice_index b (2 * k + 1) * 256 + slice_index b (2 * k)) (slice_index b (2 * k) * 256 + slice_index b (2 * k + 1))

-- the fields of a measuring block written: the value's bits, the channel mask and the command word
unfoldable pub value_in : Order → List ℕ → ℕ
value_in o b = cond (swaps_words o) (word_at o b 1 * 65536 + word_at o b 0) (word_at o b 0 * 65536 + word_at o b 1)

unfoldable pub mask_in : Order → List ℕ → ℕ
mask_in o b = word_at o b 2

unfoldable pub command_in : Order → List ℕ → ℕ
command_in o b = word_at o b 3
