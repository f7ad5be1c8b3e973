-- Each example computes.
use Rattle.std.proofs.Common.{refl}
use lib.Ieee.{of_int, to_bits, round, size, span, climb, units, odd}
use Rattle.wire.specs.Rounding.{rounded}
use Rattle.wire.specs.Blocks.{strip_bytes}
use Rattle.wire.proofs.laws.worked_examples.Goals as goal

pub returns : goal.returns
unfolding of_int to_bits round size span climb units odd rounded strip_bytes
returns c = record { seven = refl; minus_five = refl; minus_two = refl; in_order_three = refl; in_order_one = refl; zero_bits = refl }
