-- A tend does not look at which orders are known: it does the same to a scale with other known orders.
use Rattle.std.proofs.Common.{◌≡◌, ℕ, ◌-◌, ◌*◌, Bool, true, false, cond, not, ◌&&◌, eqb, leb, pos, nat_abs, Some, None, Option, sym, refl, ap, ◌∙◌}
use Rattle.weigher.specs.declared.answers.Told.{Told}
use Rattle.weigher.specs.declared.answers.Told.TheVariants.{Done, NotPossible, Late, Waiting}
use Rattle.weigher.specs.declared.orders.Order.{Order}
use Rattle.weigher.specs.declared.orders.Order.TheVariants.{TareWhenStill, ZeroWhenStill, TareNow, ZeroNow, ClearTare, PresetTare, Settle}
use Rattle.weigher.specs.declared.orders.Standing.{Standing}
use Rattle.weigher.specs.Orders.{is_immediate}
use Rattle.weigher.specs.Scale.{Scale, gross}
use Rattle.weigher.specs.Rules.{carried, tared, zeroed, attempted, ended, ready, worked, worked_on, with_standing, with_zero_tare, sensed}
use Rattle.weigher.specs.Seal.{with_known, sealed, sealed_known}
use lib.Signed.{le_z}

-- what a tend answers, with other known orders
abbrev pub answer : (Order → Bool) → Told × Scale → Told × Scale
answer k r = (r.0, with_known k r.1)

cond_map : {A B : Type 0} (f : A → B) (b : Bool) (x y : A) → cond b (f x) (f y) ≡ f (cond b x y)
cond_map f true x y = refl
cond_map f false x y = refl

cond_same : {A : Type 0} (b : Bool) {x x' y y' : A} → x ≡ x' → y ≡ y' → cond b x y ≡ cond b x' y'
cond_same true p q = p
cond_same false p q = q

module _ (k : Order → Bool) where
  tared_known : (s : Scale) → tared (with_known k s) ≡ answer k (tared s)
  tared_known s = cond_map (answer k) (le_z (pos 0) (gross s)) (Done, with_zero_tare s.zero (gross s) s) (NotPossible, s)

  zeroed_known : (s : Scale) → zeroed (with_known k s) ≡ answer k (zeroed s)
  zeroed_known s = cond_map (answer k) (leb (nat_abs s.load * 50) s.capacity) (Done, with_zero_tare s.load (pos 0) s) (NotPossible, s)

  carried_known : (o : Order) (s : Scale) → carried o (with_known k s) ≡ answer k (carried o s)
  carried_known TareWhenStill s = tared_known s
  carried_known ZeroWhenStill s = zeroed_known s
  carried_known TareNow s = tared_known s
  carried_known ZeroNow s = zeroed_known s
  carried_known ClearTare s = refl
  carried_known (PresetTare v) s = refl
  carried_known Settle s = refl

  attempted_known : (o : Order) (n : ℕ) (s : Scale) → attempted o n (with_known k s) ≡ answer k (attempted o n s)
  attempted_known o n s =
      let late : Told × Scale = (Late, with_standing None s) in
      let waiting : Told × Scale = (Waiting, with_standing (Some (record { order = o; left = n })) s) in
      let carry : ended (carried o (with_known k s)) ≡ answer k (ended (carried o s)) = ap ended (carried_known o s) in
      let wait : cond (eqb n 0) (answer k late) (answer k waiting) ≡ answer k (cond (eqb n 0) late waiting) = cond_map (answer k) (eqb n 0) late waiting in
      cond_same (ready o s) carry wait ∙ cond_map (answer k) (ready o s) (ended (carried o s)) (cond (eqb n 0) late waiting)

  worked_on_known : (o : Option Standing) (s : Scale) → worked_on o (with_known k s) ≡ answer k (worked_on o s)
  worked_on_known None s = refl
  worked_on_known (Some o) s = attempted_known o.order (o.left - 1) s

pub worked_known : (k : Order → Bool) (s : Scale) → worked (with_known k s) ≡ answer k (worked s)
worked_known k s = worked_on_known k s.standing s

-- so a tend leaves the known orders
worked_knows : (s : Scale) → (worked s).1.knows ≡ s.knows
worked_knows s = ap (λ (r : Told × Scale). r.1.knows) (worked_known s.knows s)

-- and the tend of the weigher below is that of the sealed one
pub worked_sealed : (m n : Scale) (t : Told) → (t, n) ≡ worked (sensed m n) → (t, sealed n) ≡ worked (sensed (sealed m) (sealed n))
worked_sealed m n t e =
    let known : n.knows ≡ m.knows = ap (λ (r : Told × Scale). r.1.knows) e ∙ worked_knows (sensed m n) in
    let less : (Order → Bool) → Order → Bool = λ k o. not (is_immediate o) && k o in
    ap (answer (sealed_known n)) e ∙ sym (worked_known (sealed_known n) (sensed m n)) ∙ ap (λ (k : Order → Bool). worked (with_known (less k) (sensed m n))) known
