-- The weigher in between is the one that the tend left.
use Rattle.std.proofs.Common.{ap}
use Rattle.board.specs.Scans.{answered, beaten}
use Rattle.board.proofs.board.Board.answer.Goals as goal

pub returns : goal.returns
unfolding answered
returns g c = record {
  tended = c.tend-told.new.self;
  told = c.tend-told.result;
  moved = c.tend-told.ensures.sensor;
  work = c.tend-told.ensures.work;
  rules = ap beaten c.respond-note.ensures.work;
  kept = c.respond-note.ensures.sensor;
}
