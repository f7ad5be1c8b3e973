-- The calls were played on a new board, and so the promise holds.
use Rattle.std.proofs.Common.{length, take}
use Rattle.board.proofs.Promises.{promise}
use Rattle.board.proofs.runs.run_into.Goals as goal

pub returns : goal.returns
returns g c =
    let made = c.new-board.ensures in
    let calls = take (length c.args.journal.now) c.args.calls.now in
    let es = take (length c.args.calls.now) c.play.new.journal in
    record {
      promise = promise g.W.Weigher.kind g.met.W.Weigher.lawful.patient c.args.settings c.args.weigher calls c.look-start.result es (record {
        first = c.new-board.result;
        new = made.inner;
        fresh = made.weigher;
        kept = made.sensor;
        told = c.look-start.ensures;
        last = c.play.new.self;
        played = c.play.ensures.played;
      });
      rest = c.play.ensures.rest;
    }
