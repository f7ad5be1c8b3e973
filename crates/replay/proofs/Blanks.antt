-- Where a blank stands: none in a number, so that a line of settings is parted in one way only.
use Rattle.std.proofs.Common.{◌≡◌, ℕ, zero, suc, ◌<◌, Bool, true, false, cond, eqb, List, [], ◌∷◌, ◌++◌, length, get_or, drop, ℤ, Some, sym, refl, ap, ◌∙◌, subst, le_of_suc-le-suc, arith, lit<, length-append, Bor, eqb-true}
use lib.Seq.{get_or-append_seam}
use Rattle.std.proofs.lemmas.Str.Parse.{digit_at}
use Rattle.std.proofs.lemmas.Str.Pattern.{IsSplitOnceResult, split_after}
use Rattle.std.specs.Str.Parse.{AllDigits}
use Rattle.std.specs.Int.{IsInRange}
use Rattle.replay.specs.Inputs.{Settings}
use Rattle.replay.specs.Refusals.{LacksSettings}
use Rattle.replay.specs.Words.{IsNumber}

abbrev pub Unparted : List ℕ → Type 0
Unparted bs = (i : ℕ) → i < length bs → get_or bs i 0 ≡ 32 → ⊥

-- a text that is parted by a blank has one
parted : (bs a b : List ℕ) → bs ≡ a ++ (32 ∷ b) → Unparted bs → ⊥
parted bs a b e h =
    let at : get_or bs (length a) 0 ≡ 32 = ap (λ (l : List ℕ). get_or l (length a) 0) e ∙ get_or-append_seam a 32 b 0 in
    let within : length a < length bs = omega (arith, ap length e, length-append a (32 ∷ b)) in
    h (length a) within at

digits_unparted : (ds : List ℕ) → AllDigits 10 ds → Unparted ds
digits_unparted ds d i lt e = let r : IsInRange 48 57 (get_or ds i 0) = digit_at ds i d lt in omega (arith, r.0, e)

sign_unparted : (x : ℕ) (xs : List ℕ) → (x ≡ 32 → ⊥) → AllDigits 10 xs → Unparted (x ∷ xs)
sign_unparted x xs h d zero lt e = h e
sign_unparted x xs h d (suc i) lt e = digits_unparted xs d i (le_of_suc-le-suc lt) e

signed_unparted : (minus plus : Bool) (x : ℕ) (xs : List ℕ) → eqb x 45 ≡ minus → eqb x 43 ≡ plus → AllDigits 10 (cond minus xs (drop (cond plus 1 0) (x ∷ xs))) → Unparted (x ∷ xs)
signed_unparted true plus x xs m p d = sign_unparted x xs (λ e. omega (arith, eqb-true x 45 m, e)) d
signed_unparted false true x xs m p d = sign_unparted x xs (λ e. omega (arith, eqb-true x 43 p, e)) d
signed_unparted false false x xs m p d = digits_unparted (x ∷ xs) d

pub number_unparted : (t : List ℕ) → IsNumber t → Unparted t
number_unparted [] n = λ i lt e. omega (arith, lt)
number_unparted (x ∷ xs) n = signed_unparted (eqb x 45) (eqb x 43) x xs refl refl n.0.1

-- a text without blanks, and one that begins with a blank, come apart in one way
pub cut_same : (a b x y : List ℕ) → Unparted a → Unparted b → a ++ (32 ∷ x) ≡ b ++ (32 ∷ y) → (a ≡ b) × (x ≡ y)
cut_same [] [] x y u v e = (refl, cc)
cut_same [] (q ∷ b) x y u v e = let blank : q ≡ 32 = cc in absurd (v 0 (omega arith) blank)
cut_same (p ∷ a) [] x y u v e = let blank : p ≡ 32 = cc in absurd (u 0 (omega arith) blank)
cut_same (p ∷ a) (q ∷ b) x y u v e =
    let head : p ≡ q = cc in
    let tail : a ++ (32 ∷ x) ≡ b ++ (32 ∷ y) = cc in
    let rest = cut_same a b x y (λ i lt h. u (suc i) (omega (arith, lt)) h) (λ i lt h. v (suc i) (omega (arith, lt)) h) tail in
    (cc rest.0, rest.1)

-- a line with no blank holds no settings
pub unparted_lacks : (line : List ℕ) → Unparted line → LacksSettings line
unparted_lacks line h c t s = parted line s.first s.second s.cut h

module _ (line : List ℕ) (a b : Bor (List ℕ)) (cut : IsSplitOnceResult 32 line (Some (a, b))) where
  -- settings on a line that is parted at its first blank are its two parts
  parts : (c t : ℤ) (s : Settings line c t) → (a.now ≡ s.first) × (b.now ≡ s.second)
  parts c t s = split_after 32 line s.first s.second (Some (a, b)) cut (lit< tt) s.cut (number_unparted s.first s.reads_capacity.0)

  pub no_capacity : (IsNumber a.now → ⊥) → LacksSettings line
  no_capacity h c t s = h (subst IsNumber (sym (parts c t s).0) s.reads_capacity.0)

  pub no_tolerance : (IsNumber b.now → ⊥) → LacksSettings line
  no_tolerance h c t s = h (subst IsNumber (sym (parts c t s).1) s.reads_tolerance.0)
