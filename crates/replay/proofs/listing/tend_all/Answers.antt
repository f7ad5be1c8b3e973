use Rattle.std.proofs.Common.{◌≡◌, ◌+◌, ◌<◌, true, [], ◌∷◌, ◌++◌, vec_items, ◌∙◌, arith}
use Rattle.std.proofs.lemmas.Grind.{common_steps}
use Rattle.weigher.specs.Bases.{scale_of}
use Rattle.replay.specs.Entries.{is_waiting, entry_of}
use Rattle.replay.specs.Runs.{tended}
use Rattle.replay.proofs.Steps.{taken_more, run_more, run_last, run_all}
use Rattle.replay.proofs.listing.tend_all.Goals as goal
use Rattle.replay.proofs.listing.tend_all.Goals.{else-loop-number-test, then-loop-number-test+in_ok-push+then-is_last, then-loop-number-test+in_ok-push+else-is_last+else-number-count}

pub loop-number-preserved : goal.loop-number-preserved
loop-number-preserved c =
    let cell = c.args.cell.now in
    let l = c.loop-number in
    let n = l.cell.sensor.taken in
    let told = c.tend_once-entry.result.told in
    let u = scale_of c.tend_once-entry.new.cell.base in
    let more : n < c.args.count = omega arith in
    let next = c.tend_once-entry.ensures.sensor.taken ∙ taken_more (vec_items l.cell.sensor.samples) n (grind (arith, common_steps)) in
    let e : (told, u) ≡ tended cell.sensor.tolerance (vec_items cell.sensor.samples) n (scale_of l.cell.base) = rw (l.invariant.tolerance, l.invariant.samples) at c.tend_once-entry.ensures.told in
    let w : is_waiting told ≡ true = grind (arith, common_steps) in
    record {
      taken = grind (arith, common_steps);
      tolerance = c.tend_once-entry.ensures.sensor.tolerance ∙ l.invariant.tolerance;
      samples = c.tend_once-entry.ensures.sensor.samples ∙ l.invariant.samples;
      left =
          rw (next, c.in_ok-push.ensures.items)
          (run_more cell.sensor.tolerance (vec_items cell.sensor.samples) (vec_items l.entries) n c.args.count (scale_of l.cell.base) u told c.tend_once-entry.result more e (rw l.invariant.taken c.tend_once-entry.ensures.entry) w
          ∙ l.invariant.left);
    }

pub returns : goal.returns
returns c =
    let cell = c.args.cell.now in
    let l = c.loop-number in
    let n = l.cell.sensor.taken in
    let s = scale_of l.cell.base in
    elim c.loop-number-test.branch [
      | else-loop-number-test w ↦ record { made = rw (w.entries-is, w.cell-is) (run_all cell.sensor.tolerance (vec_items cell.sensor.samples) (vec_items l.entries) n c.args.count s (omega arith) ∙ l.invariant.left) }
      | then-loop-number-test+in_ok-push+then-is_last w ↦
          let told = w.tend_once-entry.result.told in
          let u = scale_of w.tend_once-entry.new.cell.base in
          let e : (told, u) ≡ tended cell.sensor.tolerance (vec_items cell.sensor.samples) n s = rw (l.invariant.tolerance, l.invariant.samples) at w.tend_once-entry.ensures.told in
          let q : w.tend_once-entry.result ≡ entry_of (n + 1) told u = rw l.invariant.taken w.tend_once-entry.ensures.entry in
          record {
            made =
                rw (w.entries-is, w.cell-is, w.in_ok-push.ensures.items)
                (run_last cell.sensor.tolerance (vec_items cell.sensor.samples) (vec_items l.entries) n c.args.count s u told w.tend_once-entry.result (omega arith) e q (grind (arith, common_steps)) ∙ l.invariant.left);
          }
      | then-loop-number-test+in_ok-push+else-is_last+else-number-count w ↦
          let told = w.tend_once-entry.result.told in
          let u = scale_of w.tend_once-entry.new.cell.base in
          let e : (told, u) ≡ tended cell.sensor.tolerance (vec_items cell.sensor.samples) n s = rw (l.invariant.tolerance, l.invariant.samples) at w.tend_once-entry.ensures.told in
          let q : w.tend_once-entry.result ≡ entry_of (n + 1) told u = rw l.invariant.taken w.tend_once-entry.ensures.entry in
          record {
            made =
                rw (w.entries-is, w.cell-is, w.in_ok-push.ensures.items)
                (run_all cell.sensor.tolerance (vec_items cell.sensor.samples) (vec_items l.entries ++ (w.tend_once-entry.result ∷ [])) (n + 1) c.args.count u (omega arith)
                ∙ run_more cell.sensor.tolerance (vec_items cell.sensor.samples) (vec_items l.entries) n c.args.count s u told w.tend_once-entry.result (omega arith) e q (grind (arith, common_steps))
                ∙ l.invariant.left);
          }
    ]
