-- The notes that a scan can leave.
use Rattle.std.specs.Prelude.{ℕ, Some, None, Option}
use Rattle.board.specs.declared.note.Note.{Note}

abbrev pub nothing : Note
nothing = record { taken = None; posted = None; closed = None }

-- a word is taken and stays open
abbrev pub takes : ℕ → Note
takes w = record { taken = Some w; posted = None; closed = None }

-- a word is taken, answered and closed in one scan
abbrev pub at_once : ℕ → ℕ → Note
at_once w r = record { taken = Some w; posted = Some r; closed = Some w }

-- a response is posted, and the word that it closes is closed, if any
abbrev pub answers : ℕ → Option ℕ → Note
answers r w = record { taken = None; posted = Some r; closed = w }
