-- What each row of the command list says of its number.
use Rattle.std.proofs.Common.{◌≡◌, ℕ, ◌<◌, eqb, List, [], ◌∷◌, ℤ, Some, Option, find, refl, subst, arith}
use Rattle.std.specs.Option.{option_map}
use Rattle.std.proofs.lemmas.Bool.{cond_both, eqb-true}
use Rattle.board.specs.declared.command.Class.{Class}
use Rattle.board.specs.Book.{Book, succeeded}
use Rattle.board.specs.Commands.{commands, lookup, class_of}
use Rattle.board.proofs.Turns.{Plain, Listed, ListedIn}

abbrev AllRows : List (ℕ × Class) → Type 0
AllRows [] = Unit {0}
AllRows (c ∷ cs) = Listed c.0 c.1 × AllRows cs

lookup_listed : (rows : List (ℕ × Class)) → AllRows rows → (n : ℕ) → ListedIn n (lookup rows n)
lookup_listed [] all n = tt
lookup_listed (c ∷ cs) (here, rest) n =
    cond_both (eqb c.0 n) (Some c) (find (λ (r : ℕ × Class). eqb r.0 n) cs) (λ (o : Option (ℕ × Class)). ListedIn n (option_map (λ (r : ℕ × Class). r.1) o)) (λ h. subst (λ (y : ℕ). Listed y c.1) (eqb-true c.0 n h) here) (λ _. lookup_listed cs rest n)

plain : (n : ℕ) → ((load : ℤ) (b : Book) → succeeded n load b ≡ b) → (n ≡ 2047 → ⊥) → n < 65536 → Plain n
plain n a b c = record { unchanged = a; not_working = b; fits = c }

rows : AllRows commands
rows = (
  plain 0 (λ _ _. refl) (λ h. omega arith) (omega arith),
  (
    plain 1 (λ _ _. refl) (λ h. omega arith) (omega arith),
    (
      plain 2 (λ _ _. refl) (λ h. omega arith) (omega arith),
      (
        plain 3 (λ _ _. refl) (λ h. omega arith) (omega arith),
        (
          plain 5 (λ _ _. refl) (λ h. omega arith) (omega arith),
          (
            plain 6 (λ _ _. refl) (λ h. omega arith) (omega arith),
            (
              plain 7 (λ _ _. refl) (λ h. omega arith) (omega arith),
              (
                plain 1800 (λ _ _. refl) (λ h. omega arith) (omega arith),
                (
                  plain 2000 (λ _ _. refl) (λ h. omega arith) (omega arith),
                  (
                    refl,
                    (
                      (λ _. refl),
                      (
                        (λ _. refl),
                        (
                          (λ _. refl),
                          (
                            (λ _. refl),
                            (
                              (λ _. refl),
                              (
                                refl,
                                (tt, (tt, (tt, (tt, (tt, tt))))),
                              ),
                            ),
                          ),
                        ),
                      ),
                    ),
                  ),
                ),
              ),
            ),
          ),
        ),
      ),
    ),
  ),
)

pub listed : (n : ℕ) → ListedIn n (class_of n)
unfolding class_of
listed n = lookup_listed commands rows n
