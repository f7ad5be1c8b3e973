-- The journal has as many entries as there are calls, so all of them are made.
use Rattle.std.proofs.Common.{List, sym, ◌∙◌}
use Rattle.board.specs.declared.journal.Call.{Call}
use Rattle.board.specs.declared.journal.Entry.{Entry}
use Rattle.board.specs.Promise.{Promise}
use Rattle.board.proofs.Lent.{lent}
use Rattle.board.proofs.runs.run.Goals as goal

pub returns : goal.returns
returns g c =
    let long = c.as_mut_slice.ensures.len in
    let p : List Call → List Entry → Type 0 = λ cs es. Promise g.W.Weigher.kind c.args.settings c.args.weigher cs c.run_into-start.result es in
    lent p c.args.calls.now c.as_mut_slice.result.now c.run_into-start.new.journal _ _ (long ∙ c.in_ok-entries.ensures.len) c.run_into-start.auto.journal (sym long) c.run_into-start.ensures.promise
