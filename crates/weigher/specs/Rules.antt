-- What begin, tend and drop do to the meaning of a weigher.
use Rattle.std.specs.Prelude.{◌≡◌, ℕ, ◌-◌, ◌*◌, Bool, true, cond, not, ◌&&◌, ◌||◌, ℤ, pos, is_some, Some, None, Option, ◌==◌, int_le, nat_le, unsigned_abs}
use Rattle.weigher.specs.declared.orders.Order.{Order}
use Rattle.weigher.specs.declared.orders.Order.TheVariants.{TareWhenStill, ZeroWhenStill, TareNow, ZeroNow, ClearTare, PresetTare, Settle}
use Rattle.weigher.specs.declared.orders.Standing.{Standing}
use Rattle.weigher.specs.declared.answers.Told.{Told}
use Rattle.weigher.specs.declared.answers.Told.TheVariants.{Idle, Waiting, Done, NotPossible, Late}
use Rattle.weigher.specs.Orders.{needs_stillness}
use Rattle.weigher.specs.Scale.{Scale, gross}

-- the same scale with another standing order
abbrev pub with_standing : Option Standing → Scale → Scale
with_standing o s = record { load = s.load; zero = s.zero; tare = s.tare; still = s.still; fault = s.fault; standing = o; capacity = s.capacity; knows = s.knows }

-- the same scale with another zero and tare
abbrev pub with_zero_tare : ℤ → ℤ → Scale → Scale
with_zero_tare z t s = record { load = s.load; zero = z; tare = t; still = s.still; fault = s.fault; standing = s.standing; capacity = s.capacity; knows = s.knows }

-- a preset value lies within 0 to C; any other order carries no value
abbrev pub preset_fits : Order → ℕ → Bool
preset_fits TareWhenStill c = true
preset_fits ZeroWhenStill c = true
preset_fits TareNow c = true
preset_fits ZeroNow c = true
preset_fits ClearTare c = true
preset_fits (PresetTare v) c = int_le (pos 0) v && int_le v (pos c)
preset_fits Settle c = true

-- begin with patience p: the decline's number if there is one, and the scale afterwards
abbrev pub begun : ℕ → Order → Scale → Option ℕ × Scale
begun p o s = cond (is_some s.standing) (Some 21, s) (cond (not (s.knows o)) (Some 22, s) (cond (not (preset_fits o s.capacity)) (Some 23, s) (None, with_standing (Some (record { order = o; left = p })) s)))

-- drop: likewise
abbrev pub dropped : Scale → Option ℕ × Scale
dropped s = cond (is_some s.standing) (None, with_standing None s) (Some 24, s)

abbrev pub tared : Scale → Told × Scale
tared s = cond (int_le (pos 0) (gross s)) (Done, with_zero_tare s.zero (gross s) s) (NotPossible, s)

abbrev pub zeroed : Scale → Told × Scale
zeroed s = cond (nat_le (unsigned_abs s.load * 50) s.capacity) (Done, with_zero_tare s.load (pos 0) s) (NotPossible, s)

-- an order carried out: done or not possible, and the zero and tare that it leaves
abbrev pub carried : Order → Scale → Told × Scale
carried TareWhenStill s = tared s
carried ZeroWhenStill s = zeroed s
carried TareNow s = tared s
carried ZeroNow s = zeroed s
carried ClearTare s = (Done, with_zero_tare s.zero (pos 0) s)
carried (PresetTare v) s = (Done, with_zero_tare s.zero v s)
carried Settle s = (Done, s)

-- there is no fault, and the weigher is still or the order needs no stillness
abbrev pub ready : Order → Scale → Bool
ready o s = not s.fault && (s.still || not (needs_stillness o))

-- an order that has ended stands no more
abbrev pub ended : Told × Scale → Told × Scale
ended (told, s) = (told, with_standing None s)

-- one tend of a standing order, which has n tends left after it
abbrev pub attempted : Order → ℕ → Scale → Told × Scale
attempted o n s = cond (ready o s) (ended (carried o s)) (cond (n == 0) (Late, with_standing None s) (Waiting, with_standing (Some (record { order = o; left = n })) s))

abbrev pub worked_on : Option Standing → Scale → Told × Scale
worked_on None s = (Idle, s)
worked_on (Some o) s = attempted o.order (o.left - 1) s

-- a tend, on the scale with its new load, stillness and fault: what it tells, and the scale afterwards
abbrev pub worked : Scale → Told × Scale
worked s = worked_on s.standing s

-- the scale with the load, stillness and fault that a sensor read
abbrev pub reads : ℤ → Bool → Bool → Scale → Scale
reads l st f s = record { load = l; zero = s.zero; tare = s.tare; still = st; fault = f; standing = s.standing; capacity = s.capacity; knows = s.knows }

-- the scale s with the load, stillness and fault of t: what the sensor alone has changed
abbrev pub sensed : Scale → Scale → Scale
sensed s t = reads t.load t.still t.fault s

-- what the sensor read is the same in both
pub record SameReading (s t : Scale) : Type 0 where
  pub load : t.load ≡ s.load
  pub still : t.still ≡ s.still
  pub fault : t.fault ≡ s.fault
