-- What the rules make of a list of calls: the entries of its journal, and the board that each leaves.
use Rattle.std.specs.Prelude.{◌≡◌, List, [], ◌∷◌, length, Some, None}
use Rattle.weigher.specs.Kind.{Kind}
use Rattle.board.specs.declared.board.Board.{Board}
use Rattle.board.specs.declared.journal.Answer.{Answer}
use Rattle.board.specs.declared.journal.Answer.TheVariants.{Scanned, Replied, Looked, Declined}
use Rattle.board.specs.declared.journal.Call.{Call}
use Rattle.board.specs.declared.journal.Call.TheVariants.{Scan, Read, Look}
use Rattle.board.specs.declared.journal.Entry.{Entry}
use Rattle.board.specs.declared.report.Report.{Report}
use Rattle.board.specs.Boards.{look_of, attribute_report, reply_of}
use Rattle.board.specs.Declines.{number_of, scan_decline, read_decline}
use Rattle.board.specs.Images.{image_of}
use Rattle.board.specs.Scans as scans

module _ {W : Type 0} (k : Kind W) where
  -- what a call does to a board, and what it is answered; any call but an answered scan leaves the board as it was
  abbrev pub Step : Call → Answer → Board W → Board W → Type 0
  Step (Scan write n) (Scanned image read note load) before after =
      (scan_decline (length write.now) n ≡ None)
      × (image ≡ write.now)
      × scans.Scanned k before image after note
      × (read ≡ image_of after.inner (k.meaning after.weigher))
      × (load ≡ (k.meaning after.weigher).load)
  Step (Scan write n) (Replied strip) before after = ⊥
  Step (Scan write n) (Looked l) before after = ⊥
  Step (Scan write n) (Declined d) before after = (scan_decline (length write.now) n ≡ Some (number_of d)) × (after ≡ before)
  Step (Read address n) (Scanned image read note load) before after = ⊥
  Step (Read address n) (Replied strip) before after =
      (read_decline address n ≡ None)
      × ((r : Report) × (attribute_report address.attribute ≡ Some r) × (strip ≡ reply_of before.inner (k.meaning before.weigher) r))
      × (after ≡ before)
  Step (Read address n) (Looked l) before after = ⊥
  Step (Read address n) (Declined d) before after = (read_decline address n ≡ Some (number_of d)) × (after ≡ before)
  Step Look (Scanned image read note load) before after = ⊥
  Step Look (Replied strip) before after = ⊥
  Step Look (Looked l) before after = (l ≡ look_of before.inner (k.meaning before.weigher)) × (after ≡ before)
  Step Look (Declined d) before after = ⊥

  -- the calls, made in order from a board on, leave these entries and end with that board
  pub data Played : Board W → List Call → List Entry → Board W → Type 0 where
    done : (b : Board W) → Played b [] [] b
    next : (call : Call) (calls : List Call) (e : Entry) (es : List Entry) (b b₁ b₂ : Board W) → Step call e.answer b b₁ → e.after ≡ look_of b₁.inner (k.meaning b₁.weigher) → Played b₁ calls es b₂ → Played b (call ∷ calls) (e ∷ es) b₂
