-- What a ramp does: each tend moves the load by the step towards the target and not past it; it is still if that left the load alone.
use Rattle.std.specs.Prelude.{◌≡◌, ℕ, Bool, true, false, cond, ◌&&◌, ℤ, pos, ◌+ℤ◌, ◌-ℤ◌, Some, None, Option, int_le, int_lt, nat_le, unsigned_abs}
use Rattle.std.specs.Int.{int_min, int_max}

-- start and target are within ±4,000,000 and the step is 1 to 1,000, else 44
abbrev pub ramp_refusal : ℤ → ℤ → ℤ → Option ℕ
ramp_refusal start step target = cond (nat_le (unsigned_abs start) 4000000 && (nat_le (unsigned_abs target) 4000000 && (int_le (pos 1) step && int_le step (pos 1000)))) None (Some 44)

-- the load one tend later
abbrev pub towards : ℤ → ℤ → ℤ → ℤ
towards step target load = cond (int_lt load target) (int_min (load +ℤ step) target) (int_max (load -ℤ step) target)

-- what the tend of a ramp with this step and target reads, after this load
pub record RampMoves (step target before after : ℤ) (still fault : Bool) : Type 0 where
  pub load : after ≡ towards step target before
  pub still_if_alone : after ≡ before → still ≡ true
  pub alone_if_still : still ≡ true → after ≡ before
  pub no_fault : fault ≡ false
