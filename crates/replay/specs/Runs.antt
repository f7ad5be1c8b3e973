-- The tends of a cell over its samples, as far as the order takes them.
use Rattle.std.specs.Prelude.{◌≡◌, ℕ, zero, suc, ◌+◌, cond, not, ◌&&◌, List, [], ◌∷◌, ◌++◌, length, ℤ, pos, Some, None, Option, slice_index_or, unsigned_abs}
use Rattle.weigher.specs.declared.answers.Told.{Told}
use Rattle.weigher.specs.Answers.{number_of}
use Rattle.weigher.specs.Cell.{readable, settled, cell_refusal}
use Rattle.weigher.specs.Fresh.{fresh}
use Rattle.weigher.specs.Rules.{reads, worked, begun}
use Rattle.weigher.specs.Scale.{Scale}
use Rattle.replay.specs.declared.failure.Flaw.TheVariants as flaw
use Rattle.replay.specs.declared.failure.Failure.{Failure}
use Rattle.replay.specs.declared.failure.Failure.TheVariants.{Input, Memory, Streams}
use Rattle.replay.specs.declared.journal.Entry.{Entry}
use Rattle.replay.specs.Entries.{entry_of, is_waiting}
use Rattle.replay.specs.Inputs.{Contents}
use Rattle.replay.specs.Listing.{Account}

-- the tend of a cell that had taken n of these samples: what it tells, and the scale afterwards
unfoldable pub tended : ℤ → List ℤ → ℕ → Scale → Told × Scale
tended t xs n s = worked (reads (cond (readable xs n) (slice_index_or xs n (pos 0)) s.load) (readable xs n && settled t xs (n + 1)) (not (readable xs n)) s)

-- at most k tends more, after n of them with these entries; the last is the first that tells anything but waiting
unfoldable pub run_on : ℤ → List ℤ → List Entry → ℕ → ℕ → Scale → List Entry × Scale
run_on t xs es zero n s = (es, s)
run_on t xs es (suc k) n s =
    cond (is_waiting (tended t xs n s).0)
    (run_on t xs (es ++ (entry_of (n + 1) (tended t xs n s).0 (tended t xs n s).1 ∷ [])) k (n + 1) (tended t xs n s).1)
    (es ++ (entry_of (n + 1) (tended t xs n s).0 (tended t xs n s).1 ∷ []), (tended t xs n s).1)

-- the cell of a recording, new and with its order begun: the number of the order's decline if there is one, and the scale
abbrev pub begun_on : Contents → Option ℕ × Scale
begun_on r = begun 200 r.order (fresh (pos 0) (unsigned_abs r.capacity))

-- the entries of a whole replay, and the scale that it leaves: one tend for each sample at most
abbrev pub replayed : Contents → List Entry × Scale
replayed r = run_on r.tolerance r.samples [] (length r.samples) 0 (begun_on r).1

-- what a whole replay tells
abbrev pub account_of : Contents → Account
account_of r = record { entries = (replayed r).0; zero = (replayed r).1.zero; tare = (replayed r).1.tare }

abbrev pub or_else : Option ℕ → ℕ → Option (ℕ × ℕ) → Option (ℕ × ℕ)
or_else None line other = other
or_else (Some number) line other = Some (line, number)

-- the line and the number of what is declined, if anything is: the settings stand on line 1, the order on line 2
abbrev pub declined_at : Contents → Option (ℕ × ℕ)
declined_at r = or_else (cell_refusal r.capacity r.tolerance) 1 (or_else (begun_on r).0 2 None)

-- the failure is that decline, or there was no memory
abbrev pub Explains : Option (ℕ × ℕ) → Failure → Type 0
Explains at (Input line flaw.MissingLine) = ⊥
Explains at (Input line flaw.NoSettings) = ⊥
Explains at (Input line flaw.NoOrder) = ⊥
Explains at (Input line flaw.NoNumber) = ⊥
Explains at (Input line (flaw.Declined d)) = at ≡ Some (line, number_of d)
Explains at Memory = Unit {0}
Explains at Streams = ⊥
