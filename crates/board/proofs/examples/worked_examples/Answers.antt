-- The examples of the wire are shown there; the others compute.
use Rattle.std.proofs.Common.{refl}
use Rattle.board.proofs.Below.{still_below, now_below, late_at_once}
use Rattle.board.proofs.examples.worked_examples.Goals as goal

pub returns : goal.returns
returns c = record {
  on_the_wire = c.worked_examples.ensures;
  zero_at_300 = record { when_still = λ _ _ _ _. refl; now_moving = λ _ _ _ _. refl };
  zero_at_301 = record { when_still = λ _ _ _ _. refl; now_moving = λ _ _ _ _. refl };
  tare_when_still_below = still_below;
  tare_now_below = now_below;
  late_at_once = late_at_once;
}
