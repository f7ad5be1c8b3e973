use Rattle.std.proofs.Common.{append-nil}
use Rattle.std.proofs.lemmas.Slice.Zip.{either_empty_from_Zip}
use Rattle.explain.proofs.Lines.{no_lines}
use Rattle.explain.proofs.told.Explainer.put_calls.Goals as goal

pub returns : goal.returns
returns c =
    let l = c.loop-call in
    let none = no_lines l.self.order l.self.report _ _ (either_empty_from_Zip l.call-iterator c.next.new.self c.next.result c.in-None.is c.next.ensures.steps) in
    rw (none, append-nil) at l.invariant
