-- One more call after the others, entered in a journal that is lent.
use Rattle.std.proofs.Common.{◌≡◌, ℕ, ◌+◌, ◌<◌, min, List, [], ◌∷◌, ◌++◌, length, get_or, take, set, sym, ap, ◌∙◌, subst, arith}
use Rattle.std.proofs.lemmas.List.{take_more, take_more_set, take_min}
use Rattle.weigher.specs.Kind.{Kind}
use Rattle.board.specs.declared.board.Board.{Board}
use Rattle.board.specs.declared.journal.Call.{Call}
use Rattle.board.specs.declared.journal.Entry.{Entry}
use Rattle.board.specs.Boards.{look_of}
use Rattle.board.specs.Journals.{Step, Played, done, next}

module _ {W : Type 0} (kind : Kind W) where
  pub play_push : {b b₁ : Board W} {calls : List Call} {es : List Entry} → Played kind b calls es b₁ → (call : Call) (e : Entry) (b₂ : Board W) → Step kind call e.answer b₁ b₂ → e.after ≡ look_of b₂.inner (kind.meaning b₂.weigher) → Played kind b (calls ++ call ∷ []) (es ++ e ∷ []) b₂
  play_push (done b) call e b₂ s a = next call [] e [] b b₂ b₂ s a (done b₂)
  play_push (next c cs f fs b b₁ b₃ t l r) call e b₂ s a = next c (cs ++ call ∷ []) f (fs ++ e ∷ []) b b₁ b₂ t l (play_push r call e b₂ s a)

  -- a loop over the calls: one more, entered in its place
  pub play_more : {b b₁ : Board W} (calls : List Call) (journal : List Entry) (k : ℕ) (d : Call) → Played kind b (take k calls) (take k journal) b₁ → k < length calls → k < length journal → (e : Entry) (b₂ : Board W) → Step kind (get_or calls k d) e.answer b₁ b₂ → e.after ≡ look_of b₂.inner (kind.meaning b₂.weigher) → Played kind b (take (k + 1) calls) (take (k + 1) (set journal k e)) b₂
  play_more {b} calls journal k d so_far more room e b₂ step after =
      let one : Played kind b (take k calls ++ get_or calls k d ∷ []) (take k journal ++ e ∷ []) b₂ = play_push so_far (get_or calls k d) e b₂ step after in
      let two : Played kind b (take (k + 1) calls) (take k journal ++ e ∷ []) b₂ = subst (λ (cs : List Call). Played kind b cs (take k journal ++ e ∷ []) b₂) (sym (take_more calls k d more)) one in
      subst (λ (es : List Entry). Played kind b (take (k + 1) calls) es b₂) (sym (take_more_set journal k e room)) two

  -- after the last: k is the smaller of the two lengths
  pub play_all : {b b₁ : Board W} (calls : List Call) (journal : List Entry) (k : ℕ) → Played kind b (take k calls) (take k journal) b₁ → k ≡ min (length calls) (length journal) → Played kind b (take (length journal) calls) (take (length calls) journal) b₁
  play_all {b} {b₁} calls journal k played is =
      let swapped : k ≡ min (length journal) (length calls) = omega arith in
      let cs : take k calls ≡ take (length journal) calls = ap (λ (m : ℕ). take m calls) swapped ∙ take_min (length journal) calls in
      let es : take k journal ≡ take (length calls) journal = ap (λ (m : ℕ). take m journal) is ∙ take_min (length calls) journal in
      subst (λ (x : List Call). Played kind b x (take (length calls) journal) b₁) cs (subst (λ (x : List Entry). Played kind b (take k calls) x b₁) es played)
