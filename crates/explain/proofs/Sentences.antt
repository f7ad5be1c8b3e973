-- What is written of a sentence, or of none.
use Rattle.std.proofs.Common.{◌≡◌, ℕ, List, ◌++◌, Option, Some, None, codes, refl, ap, MatchOption, IsSomeAnd}
use Rattle.explain.specs.Words.{sentence, sentence_output}

pub known : {T : Type 0} (words : T → List ℕ) (o : Option T) → sentence_output (λ x. Some (words x)) o ≡ Some (sentence words o)
known words None = refl
known words (Some x) = refl

-- the sentence, if any, was made of a value
pub made : {T U : Type 0} (make : T → U) (words : U → List ℕ) (o : Option T) (r : Option U) → MatchOption o (r ≡ None) (λ x. IsSomeAnd r (λ y. y ≡ make x)) → sentence_output (λ y. Some (words y)) r ≡ Some (sentence (λ x. words (make x)) o)
made make words None None p = refl
made make words (Some x) (Some y) p = ap (λ z. Some (codes " " ++ words z)) p
made make words None (Some y) p = cc
made make words (Some x) None p = absurd p
