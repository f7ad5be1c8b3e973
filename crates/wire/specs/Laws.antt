-- What holds of every increment and every order: rounding, turning a block, and that an image read in its own order gives back what was sent.
use Rattle.std.specs.Prelude.{◌≡◌, ℕ, ◌/◌, ◌^◌, ◌<◌, ◌≤◌, List, length, ℤ}
use Rattle.wire.specs.declared.order.Order.{Order}
use Rattle.wire.specs.declared.order.Order.TheVariants.{Plain, BytesSwapped, WordsSwapped, BothSwapped}
use Rattle.wire.specs.Orders.{place, ordered}
use Rattle.wire.specs.Rounding.{rounded, Nearest}
use Rattle.wire.specs.Blocks.{read_image, word_at, value_in}

-- rounding gives the nearest multiple, whatever the step and the weight
abbrev pub RoundingLaws : Type 0
RoundingLaws = (d : ℕ) → 0 < d → (n : ℤ) → Nearest d n (rounded d n)

pub record OrderLaws : Type 0 where
  -- to turn a block twice gives it back
  pub twice : (o : Order) (b : List ℕ) → length b ≡ 8 → ordered o (ordered o b) ≡ b
  -- order 3 is orders 1 and 2 together, whichever comes first
  pub together : (b : List ℕ) → (ordered BothSwapped b ≡ ordered BytesSwapped (ordered WordsSwapped b)) × (ordered BothSwapped b ≡ ordered WordsSwapped (ordered BytesSwapped b))
  -- order 0 leaves the block alone
  pub plain : (b : List ℕ) → length b ≡ 8 → ordered Plain b ≡ b
  -- beyond the value, a byte stays in its word: no status or response word trades places with another
  pub words_stay : (o : Order) (i : ℕ) → 4 ≤ i → i < 8 → place o i / 2 ≡ i / 2
  -- and each word of the value comes from a word of the value
  pub value_stays : (o : Order) (i : ℕ) → i < 4 → place o i < 4

pub record ImageLaws : Type 0 where
  -- an image in any order is the image in order 0, turned
  pub turned_image : (o : Order) (value status response : ℕ) → ordered o (read_image Plain value status response) ≡ read_image o value status response
  -- what is sent is what is read, in the same order
  pub value_back : (o : Order) (value status response : ℕ) → value < 2 ^ 32 → value_in o (read_image o value status response) ≡ value
  pub status_back : (o : Order) (value status response : ℕ) → status < 2 ^ 16 → word_at o (read_image o value status response) 2 ≡ status
  pub response_back : (o : Order) (value status response : ℕ) → response < 2 ^ 16 → word_at o (read_image o value status response) 3 ≡ response
