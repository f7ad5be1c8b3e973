-- The calls that are made are those that were read, from the third record on.
use Rattle.std.proofs.Common.{List, vec_items, ◌∙◌, subst}
use Rattle.weigher.specs.Ramps.{ramp_kind}
use Rattle.board.specs.declared.journal.Call.{Call}
use Rattle.board.specs.Promise.{Promise}
use Rattle.drivefile.proofs.listings.drive.Goals as goal

pub returns : goal.returns
returns c =
    let head = c.in_ok-head.head in
    let given = c.new-reader.ensures.file in
    let read = c.in_ok-head.ensures.file ∙ given in
    let h = rw given at c.in_ok-head.ensures.told in
    let r = rw (read, c.in_ok-head.ensures.place) at c.in_ok-calls.ensures in
    let j = c.in_ok-journal.journal in (
      h.0,
      record {
        ramp = head.ramp;
        head = h.1;
        place = r.0;
        reads = r.1;
        ends = r.2;
        promise = subst (λ (calls : List Call). Promise ramp_kind head.settings head.ramp calls j.start (vec_items j.entries)) c.as_slice.ensures.value c.in_ok-journal.ensures;
      },
    )
