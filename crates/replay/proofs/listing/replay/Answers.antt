use Rattle.std.proofs.Common.{inl, inr}
use Rattle.std.proofs.lemmas.Result.{err_from_is_err_and}
use Rattle.replay.specs.Replays.{Unlisted}
use Rattle.replay.proofs.Apart.{listed_or_memory}
use Rattle.replay.proofs.listing.replay.Goals as goal

pub returns-in_err-recording-clause-taken : goal.returns-in_err-recording-clause-taken
returns-in_err-recording-clause-taken c =
    let f = c.in_err-recording.field-0.0 in
    let why : Unlisted c.args.text.now f = inl c.in_err-recording.ensures in
    let p = err_from_is_err_and c.from_residual.result c.from_residual.ensures.1 in
    λ good. rw (p.1, p.2) (listed_or_memory c.args.text.now f why good)

pub returns-in_err-journal-clause-taken : goal.returns-in_err-journal-clause-taken
returns-in_err-journal-clause-taken c =
    let f = c.in_err-journal.field-0.0 in
    let why : Unlisted c.args.text.now f = inr (record { contents = c.in_ok-recording.recording; recorded = c.in_ok-recording.ensures; declined = c.in_err-journal.ensures.refused }) in
    let p = err_from_is_err_and c.from_residual-in_err-journal.result c.from_residual-in_err-journal.ensures.1 in
    λ good. rw (p.1, p.2) (listed_or_memory c.args.text.now f why good)
