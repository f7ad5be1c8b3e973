-- Which settings a board is made with: an order above 3 is refused with 41, then an increment that is not listed with 42.
use Rattle.std.specs.Prelude.{ℕ, cond, Some, None, Ok, Err, Option, Result, nat_le}
use Rattle.wire.specs.declared.order.Order.{Order}
use Rattle.wire.specs.declared.order.Order.TheVariants.{Plain, BytesSwapped, WordsSwapped, BothSwapped}
use Rattle.wire.specs.declared.setting.BadSetting.{BadSetting}
use Rattle.wire.specs.Settings.{refusal}
use Rattle.wire.specs.Increments.{listed}

-- the orders are numbered from 0 to 3
abbrev pub number_of : Order → ℕ
number_of Plain = 0
number_of BytesSwapped = 1
number_of WordsSwapped = 2
number_of BothSwapped = 3

abbrev pub refusal_of : {A : Type 0} → Result A BadSetting → Option ℕ
refusal_of (Ok a) = None
refusal_of (Err e) = Some (refusal e)

abbrev pub setting_refusal : ℕ → ℕ → Option ℕ
setting_refusal o d = cond (nat_le o 3) (cond (listed d) None (Some 42)) (Some 41)
