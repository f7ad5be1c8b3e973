use Rattle.std.proofs.Common.{◌≡◌, ◌≤◌, length, take}
use Rattle.weigher.specs.Cell.{smallest, largest}
use Rattle.weigher.proofs.cell.is_steady.Given as goal

abbrev pub invariant-loop-sample : goal.invariant-loop-sample
invariant-loop-sample l =
    (l.sample-index ≤ length l.window)
    × (l.smallest ≡ smallest (take l.sample-index l.window))
    × (l.largest ≡ largest (take l.sample-index l.window))
