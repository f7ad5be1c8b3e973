-- The laws of the orders, by cases on the order: at each of the four all places are numbers.
use Rattle.std.proofs.Common.{◌≡◌, ℕ, ◌/◌, ◌^◌, ◌<◌, ◌≤◌, List, length, get_or, refl, sym, arith}
use Rattle.std.proofs.lemmas.List.FromFn.{fill_by_all}
use Rattle.std.proofs.lemmas.Bool.Decides.{nat_tests}
use Rattle.wire.specs.declared.order.Order.{Order}
use Rattle.wire.specs.declared.order.Order.TheVariants.{Plain, BytesSwapped, WordsSwapped, BothSwapped}
use Rattle.wire.specs.Orders.{place, ordered}
use Rattle.wire.specs.Blocks.{read_image, word_at, value_in}
use Rattle.wire.specs.Laws.{OrderLaws, ImageLaws}

-- a list of eight is its elements
plain : (b : List ℕ) → length b ≡ 8 → ordered Plain b ≡ b
plain b n = sym (fill_by_all (λ k. get_or b k 0) b 8 0 n (λ k h. refl))

twice : (o : Order) (b : List ℕ) → length b ≡ 8 → ordered o (ordered o b) ≡ b
twice Plain b n = plain b n
twice BytesSwapped b n = plain b n
twice WordsSwapped b n = plain b n
twice BothSwapped b n = plain b n

words_stay : (o : Order) (i : ℕ) → 4 ≤ i → i < 8 → place o i / 2 ≡ i / 2
words_stay o i l h = grind (arith, nat_tests)

value_stays : (o : Order) (i : ℕ) → i < 4 → place o i < 4
value_stays o i h = grind (arith, nat_tests)

pub order_laws : OrderLaws
order_laws = record {
  twice = twice;
  together = λ b. (refl, refl);
  plain = plain;
  words_stay = words_stay;
  value_stays = value_stays;
}

turned_image : (o : Order) (v s r : ℕ) → ordered o (read_image Plain v s r) ≡ read_image o v s r
unfolding read_image
turned_image Plain v s r = refl
turned_image BytesSwapped v s r = refl
turned_image WordsSwapped v s r = refl
turned_image BothSwapped v s r = refl

value_back : (o : Order) (v s r : ℕ) → v < 2 ^ 32 → value_in o (read_image o v s r) ≡ v
unfolding read_image value_in
value_back o v s r h = grind (arith, nat_tests)

status_back : (o : Order) (v s r : ℕ) → s < 2 ^ 16 → word_at o (read_image o v s r) 2 ≡ s
unfolding read_image
status_back o v s r h = grind (arith, nat_tests)

response_back : (o : Order) (v s r : ℕ) → r < 2 ^ 16 → word_at o (read_image o v s r) 3 ≡ r
unfolding read_image
response_back o v s r h = grind (arith, nat_tests)

pub image_laws : ImageLaws
image_laws = record { turned_image = turned_image; value_back = value_back; status_back = status_back; response_back = response_back }
