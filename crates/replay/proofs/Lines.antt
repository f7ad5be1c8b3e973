-- An input, line by line.
use Rattle.std.proofs.Common.{◌≡◌, ℕ, ◌+◌, List, [], ◌∷◌, ◌++◌, length, ℤ, map, Some, None, Option, sym, refl, ap, ◌∙◌, subst, append_assoc, append-nil, Bor, Ok, Result, MatchOption, MatchResult}
use Rattle.std.proofs.lemmas.Iterator.Splits.{YieldsList-from_lines}
use Rattle.std.proofs.lemmas.List.{map-append, length-map}
use Rattle.std.proofs.lemmas.List.Elements.{All-nil, All-cons, All-append}
use Rattle.std.specs.Iterator.{AlwaysYields}
use Rattle.std.specs.Str.Iter.{lines_rest, lines_steps}
use Rattle.std.specs.Str.Lines.{lines}
use Rattle.std.specs.Str.Parse.{signed_digits_value}
use Rattle.std.specs.declared.str.Lines.{Lines}
use Rattle.weigher.specs.declared.orders.Order.{Order}
use Rattle.replay.specs.declared.failure.Flaw.{Flaw}
use Rattle.replay.specs.declared.failure.Flaw.TheVariants.{NoNumber}
use Rattle.replay.specs.Inputs.{Settings, Samples}
use Rattle.replay.specs.Refusals.{LacksSettings, LacksOrder, BadSample}
use Rattle.replay.specs.Words.{IsNumber, Reads, Says}

-- the lines that are left of a text
abbrev pub Left : Lines → List (List ℕ) → Type 0
Left s ls = AlwaysYields lines_steps (λ x. x.now) s ls

pub no_line : (ls : List (List ℕ)) (s t : Lines) (o : Option (Bor (List ℕ))) → Left s ls → o ≡ None → lines_steps s o t → ls ≡ []
no_line [] s t o left e k = refl
no_line (l ∷ ls) s t o left e k = absurd (left.0 t (subst (λ z. lines_steps s z t) e k))

pub one_line : (ls : List (List ℕ)) (s t : Lines) (o : Option (Bor (List ℕ))) (x : Bor (List ℕ)) → Left s ls → o ≡ Some x → lines_steps s o t → (after : List (List ℕ)) × (ls ≡ x.now ∷ after) × Left t after
one_line [] s t o x left e k = absurd (left x t (subst (λ z. lines_steps s z t) e k))
one_line (l ∷ ls) s t o x left e k = let m = left.1 x t (subst (λ z. lines_steps s z t) e k) in (ls, ap (λ z. z ∷ ls) (sym m.0), m.1)

pub first_line : (bs : List ℕ) (s t : Lines) (o : Option (Bor (List ℕ))) (x : Bor (List ℕ)) → lines_rest s ≡ bs → o ≡ Some x → lines_steps s o t → (after : List (List ℕ)) × (lines bs ≡ x.now ∷ after) × Left t after
first_line bs s t o x e f k = let all = YieldsList-from_lines bs e in one_line (lines bs) s t o x all.runs f k

-- line 1, of which settings are read
pub settings_line : (bs : List ℕ) (s t : Lines) (o : Option (Bor (List ℕ))) (x : Bor (List ℕ)) (m : Option (ℤ × ℤ)) (v : ℤ × ℤ) → lines_rest s ≡ bs → lines_steps s o t → MatchOption m (LacksSettings x.now) (λ v. Settings x.now v.0 v.1) → o ≡ Some x → m ≡ Some v
    → (after : List (List ℕ)) × (lines bs ≡ x.now ∷ after) × Left t after × Settings x.now v.0 v.1
settings_line bs s t o x m v e k says f g = let l = first_line bs s t o x e f k in (l.0, l.1, l.2, rw g at says)

-- line 2, of which an order is read
pub order_line : (ls : List (List ℕ)) (s t : Lines) (o : Option (Bor (List ℕ))) (x : Bor (List ℕ)) (r : Result Order Flaw) (v : Order) → Left s ls → lines_steps s o t → MatchResult r (Says x.now) (LacksOrder x.now) → o ≡ Some x → r ≡ Ok v
    → (after : List (List ℕ)) × (ls ≡ x.now ∷ after) × Left t after × Says x.now v
order_line ls s t o x r v left k says f g = let l = one_line ls s t o x left f k in (l.0, l.1, l.2, rw g at says)

-- of these lines some are read, and they write these samples
pub record Reading (ls : List (List ℕ)) (now : Lines) (samples : List ℤ) : Type 0 where
  pub done : List (List ℕ)
  pub left : List (List ℕ)
  pub parted : ls ≡ done ++ left
  pub still : Left now left
  pub are : Samples done samples

pub none_read : (ls : List (List ℕ)) (s : Lines) → Left s ls → Reading ls s []
none_read ls s left = record { done = []; left = ls; parted = refl; still = left; are = (All-nil IsNumber, refl) }

module _ (ls : List (List ℕ)) (s t : Lines) (samples : List ℤ) (r : Reading ls s samples) where
  pub one_read : (x : Bor (List ℕ)) (v : ℤ) → lines_steps s (Some x) t → Reads x.now v → Reading ls t (samples ++ (v ∷ []))
  one_read x v k reads =
      let n = one_line r.left s t (Some x) x r.still refl k in
      let value : List ℕ → ℤ = signed_digits_value 10 in
      record {
        done = r.done ++ (x.now ∷ []);
        left = n.0;
        parted = r.parted ∙ ap (λ z. r.done ++ z) n.1 ∙ sym (append_assoc r.done (x.now ∷ []) n.0);
        still = n.2;
        are = (
          All-append IsNumber r.done (x.now ∷ []) r.are.0 (All-cons IsNumber x.now [] reads.0 (All-nil IsNumber)),
          ap (λ z. z ++ (v ∷ [])) r.are.1 ∙ ap (λ z. map value r.done ++ (z ∷ [])) reads.1 ∙ sym (map-append value r.done (x.now ∷ [])),
        );
      }

  pub all_read : lines_steps s None t → Samples ls samples
  all_read k =
      let none : r.left ≡ [] = no_line r.left s t None r.still refl k in
      let all : ls ≡ r.done = r.parted ∙ ap (λ z. r.done ++ z) none ∙ append-nil r.done in
      subst (λ z. Samples z samples) (sym all) r.are

  pub not_read : (x : Bor (List ℕ)) (n : ℕ) → lines_steps s (Some x) t → (IsNumber x.now → ⊥) → n ≡ length samples + 3 → BadSample ls n NoNumber
  not_read x n k wrong e =
      let m = one_line r.left s t (Some x) x r.still refl k in
      let many : length samples ≡ length r.done = ap length r.are.1 ∙ length-map r.done (signed_digits_value 10) in
      record { numbers = r.done; line = x.now; after = m.0; parted = r.parted ∙ ap (λ z. r.done ++ z) m.1; before = r.are.0; at = e ∙ ap (λ z. z + 3) many; no_number = wrong; is_flaw = refl }
