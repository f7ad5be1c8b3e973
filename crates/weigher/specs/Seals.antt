-- The sealed weigher as a kind: all but its known orders is that of the weigher below.
use Rattle.weigher.specs.declared.sealed.Sealed.{Sealed}
use Rattle.weigher.specs.Kind.{Kind}
use Rattle.weigher.specs.Seal.{sealed}

abbrev pub sealed_kind : {W : Type 0} → Kind W → Kind (Sealed W)
sealed_kind k = record { meaning = λ s. sealed (k.meaning s.below); moves = λ a b. k.moves a.below b.below; keeps = λ a b. k.keeps a.below b.below; patience = k.patience }
