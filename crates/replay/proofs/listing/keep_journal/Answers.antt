use Rattle.std.proofs.Common.{◌≡◌, Ok, Some, None, sym, ap, ◌∙◌, arith, rules, length, w32, to_z, of_z}
use Rattle.std.proofs.lemmas.Grind.{common_steps}
use Rattle.std.proofs.lemmas.Int.{to_z-of_z}
use Rattle.std.proofs.lemmas.Result.{err_from_is_err_and}
use Rattle.weigher.specs.Answers.{number_of, decline_of}
use Rattle.weigher.specs.declared.cell.CellSensor.{CellSensor}
use Rattle.weigher.specs.Bases.{scale_of}
use Rattle.weigher.specs.Cell.{cell_refusal}
use Rattle.replay.specs.declared.failure.Failure.TheVariants.{Input}
use Rattle.replay.specs.declared.failure.Flaw.TheVariants.{Declined}
use Rattle.replay.specs.Listing.{Account}
use Rattle.replay.specs.Runs.{begun_on, declined_at}
use Rattle.replay.proofs.Mapped.{mapped_ok, mapped_err}
use Rattle.replay.proofs.Steps.{begun_so, replayed_so}
use Rattle.replay.proofs.listing.keep_journal.Goals as goal

pub returns-in_err-map_err-clause-refused : goal.returns-in_err-map_err-clause-refused
returns-in_err-map_err-clause-refused c =
    let r = c.args.recording in
    let made : c.new.result ≡ Ok c.in_ok-cell.cell = mapped_ok _ c.new.result c.map_err.result c.in_ok-cell.cell c.map_err.ensures.cases c.in_ok-cell.was in
    let capacity : to_z w32 (of_z w32 c.recording.inside.capacity) ≡ r.capacity = grind (arith, common_steps, to_z-of_z) in
    let tolerance : to_z w32 (of_z w32 c.recording.inside.tolerance) ≡ r.tolerance = grind (arith, common_steps, to_z-of_z) in
    let order = ap (λ z. z.order) c.recording.view_is in
    let fits : None ≡ cell_refusal r.capacity r.tolerance = rw (made, capacity, tolerance) at c.new.ensures.declines in
    let new = rw (made, capacity, tolerance) at c.new.ensures.made in
    let w = mapped_err _ c.begin.result c.map_err-2.result c.in_err-map_err.field-0.0 c.map_err-2.ensures.cases c.in_err-map_err.was in
    let work = begun_so r _ (scale_of c.in_ok-cell.cell.base) _ c.begin.ensures.work new.3 order in
    let begun : Some (number_of w.0) ≡ (begun_on r).0 = ap decline_of (sym w.1) ∙ ap (λ z. z.0) work in
    let p = err_from_is_err_and c.from_residual-in_err-map_err.result c.from_residual-in_err-map_err.ensures.1 in
    let flaw : c.in_err-map_err.field-0.0 ≡ Input 2 (Declined w.0) = let given = w.2 in search rules in
    let at : declined_at r ≡ Some (2, number_of w.0) = rw (← fits, ← begun) in
    rw (p.1, p.2, flaw) at

pub returns-clause-made : goal.returns-clause-made
returns-clause-made c =
    let r = c.args.recording in
    let made : c.new.result ≡ Ok c.in_ok-cell.cell = mapped_ok _ c.new.result c.map_err.result c.in_ok-cell.cell c.map_err.ensures.cases c.in_ok-cell.was in
    let capacity : to_z w32 (of_z w32 c.recording.inside.capacity) ≡ r.capacity = grind (arith, common_steps, to_z-of_z) in
    let tolerance : to_z w32 (of_z w32 c.recording.inside.tolerance) ≡ r.tolerance = grind (arith, common_steps, to_z-of_z) in
    let order = ap (λ z. z.order) c.recording.view_is in
    let fits : None ≡ cell_refusal r.capacity r.tolerance = rw (made, capacity, tolerance) at c.new.ensures.declines in
    let new = rw (made, capacity, tolerance) at c.new.ensures.made in
    let accepted : c.begin.result ≡ Ok _ = mapped_ok _ c.begin.result c.map_err-2.result _ c.map_err-2.ensures.cases c.in_ok-map_err.was in
    let work = begun_so r _ (scale_of c.in_ok-cell.cell.base) _ c.begin.ensures.work new.3 order in
    let begun : None ≡ (begun_on r).0 = ap decline_of (sym accepted) ∙ ap (λ z. z.0) work in
    let at : declined_at r ≡ None = rw (← fits, ← begun) in
    let samples : c.begin.new.self.sensor.samples.items ≡ r.samples = ap (λ (z : CellSensor). z.samples.items) c.begin.ensures.sensor ∙ new.0 ∙ ap (λ z. z.samples) c.recording.view_is in
    let count : c.len-count.result ≡ length (c.begin.new.self.sensor.samples.items) = grind (arith, common_steps) in
    let told = replayed_so r _ _ _ _ _ c.in_ok-entries.ensures.made (ap (λ (z : CellSensor). z.tolerance) c.begin.ensures.sensor ∙ new.2) samples count (ap (λ z. z.1) work) in
    let zero : to_z w32 (of_z w32 c.look-view.result.zero) ≡ c.tend_all.new.cell.base.zero = grind (arith, common_steps, to_z-of_z) in
    let tare : to_z w32 (of_z w32 c.look-view.result.tare) ≡ c.tend_all.new.cell.base.tare = grind (arith, common_steps, to_z-of_z) in
    let account = ap {B = Account} (λ z. record { entries = z.0; zero = z.1.zero; tare = z.1.tare }) told in
    (at, rw (← zero, ← tare) at account)
