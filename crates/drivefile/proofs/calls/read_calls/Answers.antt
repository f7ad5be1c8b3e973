use Rattle.std.proofs.Common.{refl, ◌∙◌}
use Rattle.drivefile.specs.Drives.{none, more}
use Rattle.drivefile.proofs.calls.read_calls.Goals as goal

pub loop-call-init : goal.loop-call-init
loop-call-init c = (rw c.new-calls.ensures.items none, refl)

pub loop-call-preserved : goal.loop-call-preserved
loop-call-preserved c =
    let e = c.in-Ok-Some.ensures in
    let i = c.loop-call.invariant in
    let m = rw (c.in-Ok-Some.field-0-is, i.1) at e.call in
    (rw (c.in_ok-push-in-Ok-Some.ensures.items, m.4) (more _ _ _ _ _ i.0 m.2 m.3), e.file ∙ i.1)
