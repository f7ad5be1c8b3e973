-- The entry of one tend, and its line.
use Rattle.std.specs.Prelude.{ℕ, Bool, true, false, List, ◌++◌, codes, decimal}
use Rattle.std.specs.Fmt.{signed_decimal}
use Rattle.weigher.specs.declared.answers.Told.{Told}
use Rattle.weigher.specs.declared.answers.Told.TheVariants.{Idle, Waiting, Done, NotPossible, Late}
use Rattle.weigher.specs.Answers.{word_of, sensed_of, sensed_word}
use Rattle.weigher.specs.Scale.{Scale}
use Rattle.replay.specs.declared.journal.Entry.{Entry}

-- number, load, sensor and what was told, parted by one blank
abbrev pub entry_line : Entry → List ℕ
entry_line e = decimal e.number ++ (codes " " ++ (signed_decimal e.load ++ (codes " " ++ (sensed_word e.sensed ++ (codes " " ++ word_of e.told)))))

-- the entry of tend number n, which told this and left the scale so
abbrev pub entry_of : ℕ → Told → Scale → Entry
entry_of n told s = record { number = n; load = s.load; sensed = sensed_of s.fault s.still; told = told }

-- the order goes on
abbrev pub is_waiting : Told → Bool
is_waiting Idle = false
is_waiting Waiting = true
is_waiting Done = false
is_waiting NotPossible = false
is_waiting Late = false
