-- The meaning of a weigher: what it weighs, what it keeps, and the order that stands.
use Rattle.std.specs.Prelude.{ℕ, ◌*◌, ◌≤◌, Bool, ℤ, pos, ◌-ℤ◌, ◌≤ℤ◌, is_some, Option, unsigned_abs}
use Rattle.weigher.specs.declared.answers.View.{View}
use Rattle.weigher.specs.declared.orders.Order.{Order}
use Rattle.weigher.specs.declared.orders.Standing.{Standing}

pub record Scale : Type 0 where
  pub load : ℤ
  pub zero : ℤ
  pub tare : ℤ
  pub still : Bool
  pub fault : Bool
  pub standing : Option Standing
  -- the capacity C
  pub capacity : ℕ
  -- the orders that the weigher knows
  pub knows : Order → Bool

abbrev pub gross : Scale → ℤ
gross s = s.load -ℤ s.zero

abbrev pub net : Scale → ℤ
net s = gross s -ℤ s.tare

-- what look tells
abbrev pub view_of : Scale → View
view_of s = record { load = s.load; zero = s.zero; tare = s.tare; still = s.still; fault = s.fault; capacity = s.capacity; standing = is_some s.standing }

-- what holds of every weigher at every moment
pub record Sound (s : Scale) : Type 0 where
  pub load_in_range : unsigned_abs s.load ≤ 4000000
  pub zero_in_range : unsigned_abs s.zero * 50 ≤ s.capacity
  pub tare_not_negative : pos 0 ≤ℤ s.tare
  pub tare_in_range : s.tare ≤ℤ pos 4080000
  pub capacity_positive : 1 ≤ s.capacity
  pub capacity_in_range : s.capacity ≤ 4000000
