-- A tare order below a gross weight of 0, and an order with one tend on a moving scale.
use Rattle.std.proofs.Common.{◌≡◌, ℕ, Bool, true, false, cond, not, List, ℤ, pos, negsuc, is_some, Some, None, Option, refl, ap, ◌∙◌}
use lib.Signed.{le_z}
use Rattle.weigher.specs.declared.answers.Told.{Told}
use Rattle.weigher.specs.declared.answers.Told.TheVariants.{Done, NotPossible, Late}
use Rattle.weigher.specs.declared.orders.Order.TheVariants.{TareWhenStill, TareNow}
use Rattle.weigher.specs.declared.orders.Standing.{Standing}
use Rattle.weigher.specs.Scale.{Scale, gross}
use Rattle.weigher.specs.Rules.{begun, worked, reads, ended, with_standing, with_zero_tare}
use Rattle.board.specs.declared.block.State.{State}
use Rattle.board.specs.declared.block.State.TheVariants.{Working}
use Rattle.board.specs.declared.block.steps.Due.{Due}
use Rattle.board.specs.declared.inner.Inner.{Inner}
use Rattle.board.specs.Notes.{answers}
use Rattle.board.specs.Registers.{open_word}
use Rattle.board.specs.Dues.{due_of}
use Rattle.board.specs.Scans.{answered, judged_in, duly, closed_by}
use Rattle.board.specs.Examples.{TareBelow, scale, stands}

-- not possible closes the command, whatever the scan brings
refused : (p : ℕ) (i : Inner) (s : Scale) (w : ℕ) (write : List ℕ) → i.block.state ≡ Working w → (answered p i NotPossible s write).1 ≡ answers 0x8001 (Some w)
unfolding answered
refused p i s w write h =
    ap (λ (d : Option Due). (duly p i s (judged_in i.settings.order write) d).1) (ap (λ (x : State). due_of x NotPossible (gross s)) h)
    ∙ ap (λ (x : State). answers 0x8001 (closed_by (open_word x) None)) h

-- a tare order that is carried out at gross −1
below : (s : Scale) → gross s ≡ negsuc 0 → ended (cond (le_z (pos 0) (gross s)) (Done, with_zero_tare s.zero (gross s) s) (NotPossible, s)) ≡ (NotPossible, with_standing None s)
below s h = ap (λ (g : ℤ). ended (cond (le_z (pos 0) g) (Done, with_zero_tare s.zero g s) (NotPossible, s))) h

pub still_below : TareBelow 400 TareWhenStill true
still_below p i load zero tare n c knows write st h =
    let s : Scale = scale load zero tare true (stands TareWhenStill n) c knows in
    ap (λ (r : Told × Scale). (answered p i r.0 r.1 write).1) (below s h) ∙ refused p i (with_standing None s) 400 write st

pub now_below : TareBelow 403 TareNow false
now_below p i load zero tare n c knows write st h =
    let s : Scale = scale load zero tare false (stands TareNow n) c knows in
    ap (λ (r : Told × Scale). (answered p i r.0 r.1 write).1) (below s h) ∙ refused p i (with_standing None s) 403 write st

-- begun: the order stands with one tend left
begins : (s : Scale) → s.standing ≡ None → s.knows TareWhenStill ≡ true → (begun 1 TareWhenStill s).1 ≡ with_standing (stands TareWhenStill 1) s
begins s none known =
    ap (λ (o : Option Standing). (cond {A = Option ℕ × Scale} (is_some o) (Some 21, s) (cond (not (s.knows TareWhenStill)) (Some 22, s) (None, with_standing (stands TareWhenStill 1) s))).1) none
    ∙ ap (λ (k : Bool). (cond {A = Option ℕ × Scale} (not k) (Some 22, s) (None, with_standing (stands TareWhenStill 1) s)).1) known

late : (s : Scale) (load : ℤ) (fault : Bool) → (worked (reads load false fault (with_standing (stands TareWhenStill 1) s))).0 ≡ Late
late s load true = refl
late s load false = refl

pub late_at_once : (s : Scale) → s.standing ≡ None → s.knows TareWhenStill ≡ true → (load : ℤ) (fault : Bool) → (worked (reads load false fault (begun 1 TareWhenStill s).1)).0 ≡ Late
late_at_once s none known load fault = ap (λ (x : Scale). (worked (reads load false fault x)).0) (begins s none known) ∙ late s load fault
