-- Why `rounded` is the nearest multiple: what is left over by the steps is less than two of them.
use Rattle.std.proofs.Common.{◌≡◌, ℕ, zero, suc, ◌+◌, ◌-◌, ◌*◌, ◌/◌, ◌%◌, ◌<◌, ◌≤◌, T, ℤ, pos, negsuc, ◌-ℤ◌, neg_ℤ, nat_abs, sym, refl, ap, subst, mul_assoc, mul_comm, mul_left_comm, arith}
use native.Mathlib.Nat.{mul-mod_right, zero-mod}
use lib.IntN.{neg_ℤ-neg_ℤ}
use Rattle.std.proofs.lemmas.Nat.{div-add-mod', mod_below, div-mul-add}
use Rattle.std.proofs.lemmas.Int.{ints}
use Rattle.std.proofs.lemmas.Bool.Decides.{nat_tests}
use Rattle.wire.specs.Increments.{listed}
use Rattle.wire.specs.Rounding.{steps, rounded, Nearest}

-- every listed increment is 1 to 1,000
pub listed_range : (d : ℕ) → T (listed d) → (1 ≤ d) × (d ≤ 1000)
unfolding listed
listed_range d h = grind (arith, nat_tests)

-- twice the steps and a rest below two steps make up twice the size and half a step
pub left_over : (d a : ℕ) → 0 < d → (m : ℕ) × (m < 2 * d) × (2 * (d * steps d a) + m ≡ 2 * a + d)
left_over d a h = (
  (2 * a + d) % (2 * d),
  mod_below (2 * a + d) (2 * d) (omega arith),
  omega (arith, div-add-mod' (2 * a + d) (2 * d), mul_comm (steps d a) (2 * d), mul_assoc 2 d (steps d a)),
)

gap : (x y : ℕ) → nat_abs (pos x -ℤ pos y) ≡ (x - y) + (y - x)
gap x y = grind (arith, ints)

gap_below : (x y : ℕ) → nat_abs (neg_ℤ (pos x) -ℤ neg_ℤ (pos y)) ≡ (x - y) + (y - x)
gap_below x y = grind (arith, ints)

size_below : (x : ℕ) → nat_abs (neg_ℤ (pos x)) ≡ x
size_below x = grind (arith, ints)

module _ (d : ℕ) (h : 0 < d) (a : ℕ) where
  within_half : 2 * ((d * steps d a - a) + (a - d * steps d a)) ≤ d
  within_half = let m = left_over d a h in omega arith

  away_from_zero : 2 * ((d * steps d a - a) + (a - d * steps d a)) ≡ d → a < d * steps d a
  away_from_zero e = let m = left_over d a h in omega arith

  multiple_stays : a % d ≡ 0 → d * steps d a ≡ a
  multiple_stays e =
      let w : a ≡ a / d * d = omega (arith, div-add-mod' a d) in
      let s : 2 * a + d ≡ a / d * (2 * d) + d = omega (arith, mul_left_comm (a / d) 2 d) in
      let q : steps d a ≡ a / d = rw s (div-mul-add (a / d) (2 * d) d (omega arith)) in
      cc (mul_comm d (a / d))

none : (d : ℕ) → 0 < d → d * steps d 0 ≡ 0
none d h = multiple_stays d h 0 (zero-mod d)

pub mirror : (d : ℕ) → 0 < d → (n : ℤ) → rounded d (neg_ℤ n) ≡ neg_ℤ (rounded d n)
unfolding rounded
mirror d h (pos zero) = grind (arith, ints, none d h)
mirror d h (pos (suc a)) = refl
mirror d h (negsuc a) = sym (neg_ℤ-neg_ℤ (pos (d * steps d (suc a))))

-- the rounded weight is the nearest multiple, above zero and below
pub nearest : (d : ℕ) → 0 < d → (n : ℤ) → Nearest d n (rounded d n)
unfolding rounded
nearest d h (pos a) = record {
  multiple = mul-mod_right d (steps d a);
  within = rw gap (within_half d h a);
  away = rw gap (away_from_zero d h a);
  mirrored = mirror d h (pos a);
  stays = λ e. ap pos (multiple_stays d h a e);
}
nearest d h (negsuc a) = record {
  multiple = rw size_below (mul-mod_right d (steps d (suc a)));
  within = rw (gap_below (d * steps d (suc a)) (suc a)) (within_half d h (suc a));
  away = rw (gap_below (d * steps d (suc a)) (suc a), size_below (d * steps d (suc a))) (away_from_zero d h (suc a));
  mirrored = mirror d h (negsuc a);
  stays = λ e. ap (λ (x : ℕ). neg_ℤ (pos x)) (multiple_stays d h (suc a) e);
}

-- and so is whatever equals it
pub is_nearest : (d : ℕ) → T (listed d) → (n r : ℤ) → r ≡ rounded d n → Nearest d n r
is_nearest d known n r e = subst (λ (x : ℤ). Nearest d n x) (sym e) (nearest d (listed_range d known).0 n)
