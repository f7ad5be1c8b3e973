-- The sealed weigher: the weigher below without tare now and zero now.
use Rattle.std.specs.Prelude.{Bool, not, ◌&&◌}
use Rattle.weigher.specs.declared.orders.Order.{Order}
use Rattle.weigher.specs.Orders.{is_immediate}
use Rattle.weigher.specs.Scale.{Scale}

-- the same scale with other known orders
abbrev pub with_known : (Order → Bool) → Scale → Scale
with_known k s = record { load = s.load; zero = s.zero; tare = s.tare; still = s.still; fault = s.fault; standing = s.standing; capacity = s.capacity; knows = k }

abbrev pub sealed_known : Scale → Order → Bool
sealed_known s o = not (is_immediate o) && s.knows o

abbrev pub sealed : Scale → Scale
sealed s = with_known (sealed_known s) s
