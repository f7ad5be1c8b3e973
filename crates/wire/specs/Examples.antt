-- Five worked examples of rounding and of floats on the wire, and the bits of 0.
use Rattle.std.specs.Prelude.{◌≡◌, false, [], ◌∷◌, pos, negsuc, to_bits}
use Rattle.std.specs.Float.{binary32}
use Rattle.std.specs.Float.Ieee.{round}
use Rattle.wire.specs.declared.order.Order.TheVariants.{BytesSwapped, BothSwapped}
use Rattle.wire.specs.Rounding.{rounded}
use Rattle.wire.specs.Floats.{bits_of}
use Rattle.wire.specs.Blocks.{strip_bytes}

pub record Examples : Type 0 where
  -- 7 by 5 is 5; −5 by 10 is −10; −2 by 5 is 0
  pub seven : rounded 5 (pos 7) ≡ pos 5
  pub minus_five : rounded 10 (negsuc 4) ≡ negsuc 9
  pub minus_two : rounded 5 (negsuc 1) ≡ pos 0
  -- the float nearest to 2.76, in order 3
  pub in_order_three : strip_bytes BothSwapped (to_bits binary32 (round binary32 false 276 100)) ≡ 0xd7 ∷ 0xa3 ∷ 0x30 ∷ 0x40 ∷ []
  -- −10, in order 1
  pub in_order_one : strip_bytes BytesSwapped (bits_of (negsuc 9)) ≡ 0x20 ∷ 0xc1 ∷ 0x00 ∷ 0x00 ∷ []
  pub zero_bits : bits_of (pos 0) ≡ 0x0000_0000
