-- Where no call or no entry is left, there is no line.
use Rattle.std.proofs.Common.{◌≡◌, List, [], ◌∷◌, ◌⊎◌, ⊎_elim, refl}
use Rattle.wire.specs.declared.order.Order.{Order}
use Rattle.board.specs.declared.journal.Call.{Call}
use Rattle.board.specs.declared.journal.Entry.{Entry}
use Rattle.board.specs.declared.report.Report.{Report}
use Rattle.explain.specs.Explanations.{explained_lines}

no_entry : (o : Order) (s : Report) (calls : List Call) → explained_lines o s calls [] ≡ []
no_entry o s [] = refl
no_entry o s (call ∷ calls) = refl

pub no_lines : (o : Order) (s : Report) (calls : List Call) (journal : List Entry) → (calls ≡ []) ⊎ (journal ≡ []) → explained_lines o s calls journal ≡ []
no_lines o s calls journal none = ⊎_elim (λ p. rw p) (λ p. rw p (no_entry o s calls)) none
