use Rattle.std.proofs.Common.{◌≡◌, ℕ, ◌≤◌, take, drop}
use Rattle.board.specs.Journals.{Played}
use Rattle.board.proofs.board.Board.play.Given as goal

-- the entries so far are those of the calls so far, and the rest of the journal is as it was
abbrev pub invariant-loop-i : goal.invariant-loop-i
invariant-loop-i g l =
    Played g.W.Weigher.kind l.initial.self (take l.i l.calls) (take l.i l.journal) l.self
    × ((k : ℕ) → l.i ≤ k → drop k l.journal ≡ drop k l.initial.journal)
