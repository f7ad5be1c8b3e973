-- The meaning of the part that all kinds share. It knows all seven orders.
use Rattle.std.specs.Prelude.{true}
use Rattle.weigher.specs.declared.base.Base.{Base}
use Rattle.weigher.specs.Scale.{Scale}

abbrev pub scale_of : Base → Scale
scale_of b = record { load = b.load.grams; zero = b.zero; tare = b.tare; still = b.still; fault = b.fault; standing = b.standing; capacity = b.capacity; knows = λ _. true }
