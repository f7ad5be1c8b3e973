use Rattle.std.proofs.Common.{◌≡◌, ◌+◌, ◌-◌, [], vec_items}
use Rattle.weigher.specs.Bases.{scale_of}
use Rattle.replay.specs.Runs.{run_on}
use Rattle.replay.proofs.listing.tend_all.Given as goal

-- what is left to do, after what is done, is what there was to do
abbrev pub invariant-loop-number : goal.invariant-loop-number
invariant-loop-number l =
    record {
      taken : l.cell.sensor.taken + 1 ≡ l.number;
      tolerance : l.cell.sensor.tolerance ≡ l.initial.cell.sensor.tolerance;
      samples : vec_items l.cell.sensor.samples ≡ vec_items l.initial.cell.sensor.samples;
      left : run_on l.initial.cell.sensor.tolerance (vec_items l.initial.cell.sensor.samples) (vec_items l.entries) (l.count - l.cell.sensor.taken) l.cell.sensor.taken (scale_of l.cell.base)
          ≡ run_on l.initial.cell.sensor.tolerance (vec_items l.initial.cell.sensor.samples) [] l.count 0 (scale_of l.initial.cell.base);
    }
