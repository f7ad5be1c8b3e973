-- The numbers of the settings: which order a number names, and the number and the words of each refusal.
use Rattle.std.specs.Prelude.{ℕ, cond, List, Ok, Err, Result, ◌==◌, codes}
use Rattle.wire.specs.declared.order.Order.{Order}
use Rattle.wire.specs.declared.order.Order.TheVariants.{Plain, BytesSwapped, WordsSwapped, BothSwapped}
use Rattle.wire.specs.declared.setting.BadSetting.{BadSetting}
use Rattle.wire.specs.declared.setting.BadSetting.TheVariants.{UnknownOrder, UnknownIncrement}

abbrev pub refusal : BadSetting → ℕ
refusal UnknownOrder = 41
refusal UnknownIncrement = 42

-- what is printed of it
abbrev pub refusal_words : BadSetting → List ℕ
refusal_words UnknownOrder = codes "no such order setting"
refusal_words UnknownIncrement = codes "no such increment"

-- the orders are numbered from 0 to 3
abbrev pub order_of : ℕ → Result Order BadSetting
order_of n =
    cond (n == 0) (Ok Plain)
    (cond (n == 1) (Ok BytesSwapped)
    (cond (n == 2) (Ok WordsSwapped)
    (cond (n == 3) (Ok BothSwapped) (Err UnknownOrder))))
