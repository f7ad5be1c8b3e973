use Rattle.std.proofs.Common.{◌≡◌, ◌≤◌, ◌++◌, length, take, vec_items}
use Rattle.drivefile.specs.Lines.{entry_lines}
use Rattle.drivefile.proofs.lines.put_entries.Given as goal

abbrev pub invariant-loop-noted : goal.invariant-loop-noted
invariant-loop-noted l = (l.noted-index ≤ length l.entries) × (vec_items l.out ≡ vec_items l.initial.out ++ entry_lines (take l.noted-index l.entries))
