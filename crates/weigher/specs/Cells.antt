-- The cell as a kind of weigher: what its sensor does in a tend.
use Rattle.std.specs.Prelude.{◌≡◌, Bool, ℤ}
use Rattle.weigher.specs.declared.cell.CellSensor.{CellSensor}
use Rattle.weigher.specs.Cell.{CellMoves, taken_next}

-- samples and tolerance stay, and the next sample is taken
pub record CellSenses (a : CellSensor) (before : ℤ) (b : CellSensor) (after : ℤ) (still fault : Bool) : Type 0 where
  pub samples : b.samples.items ≡ a.samples.items
  pub tolerance : b.tolerance ≡ a.tolerance
  pub taken : b.taken ≡ taken_next a.samples.items a.taken
  pub moves : CellMoves a.tolerance a.samples.items a.taken before after still fault
