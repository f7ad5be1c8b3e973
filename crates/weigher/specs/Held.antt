-- What the shared part of the weighers keeps of a standing order: it has a tend left, and a preset value that fits.
use Rattle.std.specs.Prelude.{ℕ, Bool, true, ◌&&◌, Some, None, Option, nat_le}
use Rattle.weigher.specs.declared.orders.Standing.{Standing}
use Rattle.weigher.specs.Rules.{preset_fits}

abbrev pub held : ℕ → Option Standing → Bool
held c None = true
held c (Some o) = nat_le 1 o.left && preset_fits o.order c
