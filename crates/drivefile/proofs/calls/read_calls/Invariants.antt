use Rattle.std.proofs.Common.{◌≡◌, ◌-◌, length, vec_items}
use Rattle.drivefile.specs.Drives.{Reads}
use Rattle.drivefile.proofs.calls.read_calls.Given as goal

-- the calls so far are those of the records so far
abbrev pub invariant-loop-call : goal.invariant-loop-call
invariant-loop-call l = Reads l.fn.reader.file.now l.fn.reader.place (vec_items l.calls) l.reader.place × (l.reader.file.now ≡ l.fn.reader.file.now)

abbrev pub decreases-loop-call : goal.decreases-loop-call
decreases-loop-call l = length l.reader.file.now - l.reader.place
