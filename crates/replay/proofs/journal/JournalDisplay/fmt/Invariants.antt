use Rattle.std.proofs.Common.{◌++◌, take, codes, flat_map}
use Rattle.std.specs.Fmt.{IsPlainFormatter, HasWritten}
use Rattle.replay.specs.Entries.{entry_line}
use Rattle.replay.proofs.journal.JournalDisplay.fmt.Given as goal

-- the lines so far are written
abbrev pub invariant-loop-entry : goal.invariant-loop-entry
invariant-loop-entry g l = IsPlainFormatter l.fn.f → HasWritten g.W.Write.write_str_gives l.fn.f (flat_map (λ e. entry_line e ++ codes "\n") (take l.entry-index l.entry-items)) l.f
