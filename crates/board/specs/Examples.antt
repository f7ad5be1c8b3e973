-- The nine worked examples, over the definitions that the contracts cite.
use Rattle.std.specs.Prelude.{◌≡◌, ℕ, Bool, true, false, List, ℤ, pos, negsuc, Some, None, Option}
use Rattle.weigher.specs.declared.answers.Told.{Told}
use Rattle.weigher.specs.declared.answers.Told.TheVariants.{Done, NotPossible, Late}
use Rattle.weigher.specs.declared.orders.Order.{Order}
use Rattle.weigher.specs.declared.orders.Order.TheVariants.{TareWhenStill, ZeroWhenStill, TareNow, ZeroNow}
use Rattle.weigher.specs.declared.orders.Standing.{Standing}
use Rattle.weigher.specs.Scale.{Scale, gross}
use Rattle.weigher.specs.Rules.{begun, worked, reads}
use Rattle.wire.specs.Examples.{Examples as WireExamples}
use Rattle.board.specs.declared.block.State.TheVariants.{Working}
use Rattle.board.specs.declared.inner.Inner.{Inner}
use Rattle.board.specs.Notes.{answers}
use Rattle.board.specs.Scans.{answered}

-- a scale without fault
abbrev pub scale : ℤ → ℤ → ℤ → Bool → Option Standing → ℕ → (Order → Bool) → Scale
scale load zero tare still standing c knows =
    record { load = load; zero = zero; tare = tare; still = still; fault = false; standing = standing; capacity = c; knows = knows }

-- this order stands, with n tends left
abbrev pub stands : Order → ℕ → Option Standing
stands o n = Some (record { order = o; left = n })

-- with C 15,000 a tend at this load, whatever zero and tare were, carries out either zero order and tells this, with this zero and tare
pub record Zeroing (load : ℤ) (told : Told) (zero_after tare_after : ℤ → ℤ) : Type 0 where
  pub when_still : (zero tare : ℤ) (n : ℕ) (knows : Order → Bool) → worked (scale load zero tare true (stands ZeroWhenStill n) 15000 knows) ≡ (told, scale load (zero_after zero) (tare_after tare) true None 15000 knows)
  pub now_moving : (zero tare : ℤ) (n : ℕ) (knows : Order → Bool) → worked (scale load zero tare false (stands ZeroNow n) 15000 knows) ≡ (told, scale load (zero_after zero) (tare_after tare) false None 15000 knows)

-- a board on which this command works, on a scale whose gross weight is −1: the scan, whatever it brings, closes the command with 8001h
abbrev pub TareBelow : ℕ → Order → Bool → Type 0
TareBelow w o still =
    (p : ℕ) (i : Inner) (load zero tare : ℤ) (n c : ℕ) (knows : Order → Bool) (write : List ℕ) →
    let s : Scale = scale load zero tare still (stands o n) c knows in
    i.block.state ≡ Working w
    → gross s ≡ negsuc 0
    → (answered p i (worked s).0 (worked s).1 write).1 ≡ answers 0x8001 (Some w)

pub record Examples : Type 0 where
  -- 7 by 5 is 5; −5 by 10 is −10; −2 by 5 is 0; 2.76 in order 3 is D7 A3 30 40; −10 in order 1 is 20 C1 00 00
  pub on_the_wire : WireExamples
  -- zero at load 300 is done, at 301 not possible
  pub zero_at_300 : Zeroing (pos 300) Done (λ _. pos 300) (λ _. pos 0)
  pub zero_at_301 : Zeroing (pos 301) NotPossible (λ z. z) (λ t. t)
  -- tare at gross −1 closes with 8001h
  pub tare_when_still_below : TareBelow 400 TareWhenStill true
  pub tare_now_below : TareBelow 403 TareNow false
  -- with patience 1, tare when still, begun on a weigher that knows it, is late on its first tend if the weigher moves then
  pub late_at_once : (s : Scale) → s.standing ≡ None → s.knows TareWhenStill ≡ true → (load : ℤ) (fault : Bool) → (worked (reads load false fault (begun 1 TareWhenStill s).1)).0 ≡ Late
