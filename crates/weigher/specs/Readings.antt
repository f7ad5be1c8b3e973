-- What a weigher takes over of a reading; none is a fault, in which the load stays and the weigher is not still.
use Rattle.std.specs.Prelude.{Bool, false, ℤ, Some, None, Option}
use Rattle.weigher.specs.declared.reading.Reading.{Reading}

abbrev pub load_read : ℤ → Option Reading → ℤ
load_read before None = before
load_read before (Some reading) = reading.load.grams

abbrev pub still_read : Option Reading → Bool
still_read None = false
still_read (Some reading) = reading.still
