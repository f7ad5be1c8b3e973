-- A float equals the whole number z exactly where `whole_float` answers z, for every z up to the largest.
use Rattle.std.proofs.Common.{◌≡◌, ℕ, suc, ◌*◌, ◌/◌, ◌%◌, ◌^◌, ◌<◌, ◌≤◌, Bool, true, false, T, ◌⊎◌, ℤ, pos, negsuc, nat_abs, Some, None, Option, sym, refl, ap, ◌∙◌, subst, mul-pos, div-add-mod', zero-mul, mul-one, mul_right_comm, mul-div_cancel, arith}
use native.Mathlib.Nat.{mul-mod_left, eq_of_mul-eq-mul_right}
use lib.Ieee.{Float, nan, inf, fin, binary32, up, down, eq, of_int, of_bits, to_signed, is_nan}
use lib.Ieee.Bits.{of_bits-to_bits, nan_bits_is, nan_bits_above}
use lib.Ieee.Exact.{HasValue}
use lib.Ieee.Back.{round_whole}
use lib.Ieee.Fits.{of_int-fits, down_pos}
use Rattle.std.proofs.lemmas.Bool.{lt-ltb}
use Rattle.std.proofs.lemmas.Float.{not_nan_f32_bits}
use Rattle.std.proofs.lemmas.Int.{ints}
use Rattle.std.proofs.lemmas.Bool.Decides.{nat_tests}
use Rattle.wire.specs.Floats.{largest, signed, whole_float, whole_of, bits_of, Whole}

abbrev pub negative : ℤ → Bool
negative (pos n) = false
negative (negsuc n) = true

-- a whole number is its sign and its size
pub signed_is : (z : ℤ) → signed (negative z) (nat_abs z) ≡ z
signed_is (pos n) = refl
signed_is (negsuc n) = refl

-- up to 2 ^ 24 the float is exact
pub of_value : (z : ℤ) → nat_abs z ≤ 2 ^ 24 → HasValue (of_int binary32 z) (negative z) (nat_abs z) 1
unfolding of_int
of_value (pos n) h = round_whole binary32 false n h
of_value (negsuc n) h = round_whole binary32 true (suc n) h

-- one number written twice, n * dd ≡ x of the one and mm ≡ n * dm of the other, has the same cross products
cross : (mm dm n x dd : ℕ) → mm ≡ n * dm → n * dd ≡ x → mm * dd ≡ x * dm
cross mm dm n x dd a b = cc (mul_right_comm n dm dd)

uncross : (mm dm n x dd : ℕ) → 0 < dm → mm ≡ n * dm → mm * dd ≡ x * dm → n * dd ≡ x
uncross mm dm n x dd p a b = eq_of_mul-eq-mul_right dm p (n * dd) x (cc (mul_right_comm n dd dm))

zero_of : (n d e : ℕ) → 0 < d → 0 < e → n * d * e ≡ 0 → n ≡ 0
zero_of n d e p q h = grind (arith, mul-pos)

zero_times : (k n d e : ℕ) → k ≡ n * d → n ≡ 0 → k * e ≡ 0
zero_times k n d e a z = simp (a, z, zero-mul)

-- a float of the value ±n equals ±m * 2 ^ e exactly if the two are one number
equal_from : (y : Float) (s : Bool) (n : ℕ) → HasValue y s n 1 → (t : Bool) (m : ℕ) (e : ℤ) → n * down e ≡ m * up e → (s ≡ t) ⊎ (n ≡ 0) → T (eq y (fin t m e))
unfolding eq
equal_from (fin r k g) s n v t m e same agree =
    let a : k * up g ≡ n * down g = sym (mul-one (k * up g)) ∙ v.1 in
    grind (arith, nat_tests, cross (k * up g) (down g) n (m * up e) (down e) a same, zero_times (k * up g) n (down g) (down e) a)
equal_from nan s n v t m e same agree = absurd v
equal_from (inf r) s n v t m e same agree = absurd v

equal_says : (y : Float) (s : Bool) (n : ℕ) → HasValue y s n 1 → (t : Bool) (m : ℕ) (e : ℤ) → T (eq y (fin t m e)) → (n * down e ≡ m * up e) × ((s ≡ t) ⊎ (n ≡ 0))
unfolding eq
equal_says (fin r k g) s n v t m e h =
    let a : k * up g ≡ n * down g = sym (mul-one (k * up g)) ∙ v.1 in
    grind (arith, nat_tests, uncross (k * up g) (down g) n (m * up e) (down e) (down_pos g) a, zero_of n (down g) (down e) (down_pos g) (down_pos e))
equal_says nan s n v t m e h = absurd v
equal_says (inf r) s n v t m e h = absurd v

-- a fraction with no rest is its quotient
no_rest : (n x d : ℕ) → 0 < d → n * d ≡ x → (x % d ≡ 0) × (x / d ≡ n)
no_rest n x d p h = (ap (λ (y : ℕ). y % d) (sym h) ∙ mul-mod_left n d, ap (λ (y : ℕ). y / d) (sym h) ∙ mul-div_cancel n p)

same_signed : (s t : Bool) (n : ℕ) → (s ≡ t) ⊎ (n ≡ 0) → signed t n ≡ signed s n
same_signed s t n w = grind arith

-- what equals a whole number up to the largest is that whole number
answers : (y x : Float) (s : Bool) (n : ℕ) → HasValue y s n 1 → n ≤ largest → T (eq y x) → whole_float x ≡ Some (signed s n)
unfolding eq
answers (fin r k g) (fin t m e) s n v h q =
    let w = equal_says (fin r k g) s n v t m e q in
    let r = no_rest n (m * up e) (down e) (down_pos e) w.0 in
    grind (arith, nat_tests, r.0, r.1, same_signed s t n w.1)
answers (fin r k g) nan s n v h q = absurd q
answers (fin r k g) (inf t) s n v h q = absurd q
answers nan x s n v h q = absurd v
answers (inf r) x s n v h q = absurd v

size_of : (t : Bool) (n : ℕ) → nat_abs (signed t n) ≡ n
size_of t n = grind (arith, ints)

sign_of : (t : Bool) (n : ℕ) → (negative (signed t n) ≡ t) ⊎ (nat_abs (signed t n) ≡ 0)
sign_of t n = grind (arith, ints)

-- what `whole_float` answers: the number's size, its sign and that nothing is left over
parts : (t : Bool) (m : ℕ) (e : ℤ) (z : ℤ) → whole_float (fin t m e) ≡ Some z → (signed t (m * up e / down e) ≡ z) × (m * up e / down e ≤ largest) × (m * up e / down e * down e ≡ m * up e)
parts t m e z h =
    grind (arith, nat_tests, div-add-mod' (m * up e) (down e))

-- a whole number that is answered equals the float
says : (x : Float) (z : ℤ) → whole_float x ≡ Some z → (nat_abs z ≤ largest) × T (eq (of_int binary32 z) x)
says nan z h = absurd (cc)
says (inf t) z h = absurd (cc)
says (fin t m e) z h =
    let q = m * up e / down e in
    let p = parts t m e z h in
    let n : nat_abs z ≡ q = ap nat_abs (sym p.0) ∙ size_of t q in
    let small : nat_abs z ≤ largest = omega (arith, p.1, n) in (
      small,
      equal_from (of_int binary32 z) (negative z) (nat_abs z) (of_value z (omega arith)) t m e
          (ap (λ (k : ℕ). k * down e) n ∙ p.2)
          (subst (λ (y : ℤ). (negative y ≡ t) ⊎ (nat_abs y ≡ 0)) p.0 (sign_of t q)),
    )

-- and it is the float cut to a whole number
pub cut : (x : Float) (z : ℤ) → whole_float x ≡ Some z → to_signed 31 x ≡ z
unfolding to_signed
cut nan z h = cc
cut (inf t) z h = cc
cut (fin t m e) z h = let p = parts t m e z h in grind (arith, nat_tests)

-- over bits: `whole_of` answers z exactly where the bits stand for z
pub whole_from : (b : ℕ) (z : ℤ) → Whole b z → whole_of b ≡ Some z
unfolding whole_of
whole_from b z w = answers (of_int binary32 z) (of_bits binary32 b) (negative z) (nat_abs z) (of_value z (omega (arith, w.0))) w.0 w.1 ∙ ap Some (signed_is z)

pub whole_says : (b : ℕ) (z : ℤ) → whole_of b ≡ Some z → Whole b z
unfolding whole_of
whole_says b z h = says (of_bits binary32 b) z h

pub not_whole : (b : ℕ) → whole_of b ≡ None → (z : ℤ) → Whole b z → ⊥
not_whole b h z w = cc (whole_from b z w)

equal_itself : (y : Float) (s : Bool) (n : ℕ) → HasValue y s n 1 → T (eq y y)
unfolding eq
equal_itself (fin r k g) s n v = grind (arith, nat_tests)
equal_itself nan s n v = absurd v
equal_itself (inf r) s n v = absurd v

-- a whole number sent and read back is itself
pub sent_and_read : (z : ℤ) → nat_abs z ≤ largest → whole_of (bits_of z) ≡ Some z
unfolding whole_of
sent_and_read z h =
    let v = of_value z (omega (arith, h)) in
    whole_from (bits_of z) z (h, rw (of_bits-to_bits binary32 (of_int binary32 z) (of_int-fits binary32 z)) (equal_itself (of_int binary32 z) (negative z) (nat_abs z) v))

-- a NaN's bits are no whole number
nan_none : (x : Float) → is_nan x ≡ true → whole_float x ≡ None
unfolding is_nan
nan_none nan k = refl
nan_none (inf t) k = cc
nan_none (fin t m e) k = cc

pub nan_not_whole : (b : ℕ) → 0x7f80_0000 < b % 0x8000_0000 → whole_of b ≡ None
unfolding whole_of
nan_not_whole b h = nan_none (of_bits binary32 b) (sym (nan_bits_is binary32 b) ∙ nan_bits_above binary32 b ∙ lt-ltb _ _ h)

-- a float is no whole number if the number that it is cut to is not the one
pub none_but_cut : (b : ℕ) (n : ℤ) → n ≡ to_signed 31 (of_bits binary32 b) → (Whole b n → ⊥) → whole_of b ≡ None
unfolding whole_of
none_but_cut b n e no-n = go (whole_of b) refl
  where
    go : (o : Option ℤ) → whole_of b ≡ o → o ≡ None
    go None h = refl
    go (Some z) h = absurd (no-n (subst (λ (y : ℤ). Whole b y) (sym (cut (of_bits binary32 b) z h) ∙ sym e) (says (of_bits binary32 b) z h)))

-- what the proof of `whole` wants
pub ruleset whole_facts = (not_nan_f32_bits, nan_not_whole, not_whole, whole_from, none_but_cut)
