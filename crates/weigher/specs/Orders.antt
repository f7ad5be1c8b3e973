-- Which orders wait for stillness, and which two are immediate.
use Rattle.std.specs.Prelude.{Bool, true, false}
use Rattle.weigher.specs.declared.orders.Order.{Order}
use Rattle.weigher.specs.declared.orders.Order.TheVariants.{TareWhenStill, ZeroWhenStill, TareNow, ZeroNow, ClearTare, PresetTare, Settle}

abbrev pub needs_stillness : Order → Bool
needs_stillness TareWhenStill = true
needs_stillness ZeroWhenStill = true
needs_stillness TareNow = false
needs_stillness ZeroNow = false
needs_stillness ClearTare = false
needs_stillness (PresetTare v) = false
needs_stillness Settle = true

abbrev pub is_immediate : Order → Bool
is_immediate TareWhenStill = false
is_immediate ZeroWhenStill = false
is_immediate TareNow = true
is_immediate ZeroNow = true
is_immediate ClearTare = false
is_immediate (PresetTare v) = false
is_immediate Settle = false
