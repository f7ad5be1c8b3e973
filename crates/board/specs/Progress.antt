-- Progress: an open command that awaits no step word gets a response within as many answered scans as the weigher has patience.
use Rattle.std.specs.Prelude.{◌≡◌, ℕ, ◌+◌, ◌≤◌, List, [], ◌∷◌, ◌++◌, Some, ◌≢◌}
use Rattle.wire.specs.declared.order.Order.{Order}
use Rattle.board.specs.declared.journal.Answer.{Answer}
use Rattle.board.specs.declared.journal.Answer.TheVariants.{Scanned, Replied, Looked, Declined}
use Rattle.board.specs.declared.journal.Entry.{Entry}
use Rattle.board.specs.declared.look.Look.{Look}
use Rattle.board.specs.Account.{look_after}
use Rattle.board.specs.Book.{response_in}

-- how many of the calls were answered scans
abbrev pub scan_of : Answer → ℕ
scan_of (Scanned write read note load) = 1
scan_of (Replied strip) = 0
scan_of (Looked l) = 0
scan_of (Declined d) = 0

abbrev pub answered_scans : List Entry → ℕ
answered_scans [] = 0
answered_scans (e ∷ es) = scan_of e.answer + answered_scans es

-- the response shown by the last answered scan, or the one shown before
abbrev pub shown_by : Order → ℕ → Answer → ℕ
shown_by o before (Scanned write read note load) = response_in o read
shown_by o before (Replied strip) = before
shown_by o before (Looked l) = before
shown_by o before (Declined d) = before

abbrev pub shown_after : Order → ℕ → List Entry → ℕ
shown_after o before [] = before
shown_after o before (e ∷ es) = shown_after o (shown_by o before e.answer) es

-- the call is an answered scan that posted the response r
abbrev pub Posts : Answer → ℕ → Type 0
Posts (Scanned write read note load) r = note.posted ≡ Some r
Posts (Replied strip) r = ⊥
Posts (Looked l) r = ⊥
Posts (Declined d) r = ⊥

-- among the entries of a part there is a scan that posts a response to the word that is still open before it
pub record AnsweredIn (start : Look) (front part : List Entry) (word : ℕ) : Type 0 where
  pub before : List Entry
  pub answering : Entry
  pub later : List Entry
  pub cut : part ≡ before ++ answering ∷ later
  pub response : ℕ
  pub posts : Posts answering.answer response
  pub still_open : (look_after start (front ++ before)).«open» ≡ Some word

-- a word is open after the front, neither 2045 nor 8020h shows, and the part that follows has at least p answered scans
abbrev pub Progress : Order → ℕ → Look → List Entry → Type 0
Progress o p start journal =
    (front part rest : List Entry) (word : ℕ)
    → journal ≡ front ++ (part ++ rest)
    → (look_after start front).«open» ≡ Some word
    → (shown_after o 0 front ≢ 2045)
    → (shown_after o 0 front ≢ 0x8020)
    → p ≤ answered_scans part
    → AnsweredIn start front part word
