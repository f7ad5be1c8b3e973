-- What a call of `map_err` was made on, by what it gives.
use Rattle.std.proofs.Common.{◌≡◌, Ok, Err, Result, MatchResult, IsErrAnd, sym, refl, ◌∙◌, subst}

module _ {A E F : Type 0} (Q : E → F → Type 0) where
  -- a value is the one that came
  pub mapped_ok : (r : Result A E) (s : Result A F) (x : A) → MatchResult r (λ y. s ≡ Ok y) (λ e. IsErrAnd s (Q e)) → s ≡ Ok x → r ≡ Ok x
  mapped_ok (Ok y) s x cases e = let same : ◌≡◌ {A = Result A F} (Ok y) (Ok x) = sym cases ∙ e in cc
  mapped_ok (Err w) s x cases e = absurd (subst (λ (z : Result A F). IsErrAnd z (Q w)) e cases)

  -- an error is what the closure made of the one that came
  pub mapped_err : (r : Result A E) (s : Result A F) (f : F) → MatchResult r (λ y. s ≡ Ok y) (λ e. IsErrAnd s (Q e)) → s ≡ Err f → (w : E) × (r ≡ Err w) × Q w f
  mapped_err (Ok y) s f cases e = let other : ◌≡◌ {A = Result A F} (Ok y) (Err f) = sym cases ∙ e in cc
  mapped_err (Err w) s f cases e = (w, refl, subst (λ (z : Result A F). IsErrAnd z (Q w)) e cases)
