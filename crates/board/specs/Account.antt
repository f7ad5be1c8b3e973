-- The account: the words taken so far are the words closed so far, in the same order, and then the one that is open.
use Rattle.std.specs.Prelude.{◌≡◌, ℕ, List, [], ◌∷◌, ◌++◌}
use Rattle.std.specs.Option.{option_to_list}
use Rattle.board.specs.declared.journal.Answer.{Answer}
use Rattle.board.specs.declared.journal.Answer.TheVariants.{Scanned, Replied, Looked, Declined}
use Rattle.board.specs.declared.journal.Entry.{Entry}
use Rattle.board.specs.declared.look.Look.{Look}

-- what look tells after these entries
abbrev pub look_after : Look → List Entry → Look
look_after start [] = start
look_after start (e ∷ es) = look_after e.after es

-- the word that a call took, and the word that it closed, if any: only an answered scan does either
abbrev pub taken_by : Answer → List ℕ
taken_by (Scanned write read note load) = option_to_list note.taken
taken_by (Replied strip) = []
taken_by (Looked l) = []
taken_by (Declined d) = []

abbrev pub closed_by : Answer → List ℕ
closed_by (Scanned write read note load) = option_to_list note.closed
closed_by (Replied strip) = []
closed_by (Looked l) = []
closed_by (Declined d) = []

-- all words taken and all words closed, in order
abbrev pub taken : List Entry → List ℕ
taken [] = []
taken (e ∷ es) = taken_by e.answer ++ taken es

abbrev pub closed : List Entry → List ℕ
closed [] = []
closed (e ∷ es) = closed_by e.answer ++ closed es

-- at every moment, that is after every part of the journal that it begins with
abbrev pub Account : Look → List Entry → Type 0
Account start journal =
    (front rest : List Entry) → journal ≡ front ++ rest → taken front ≡ closed front ++ option_to_list (look_after start front).«open»
