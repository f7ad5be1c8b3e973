-- The registers of a board with another block, deviation or heartbeat.
use Rattle.std.specs.Prelude.{not, ℤ}
use Rattle.board.specs.declared.block.Block.{Block}
use Rattle.board.specs.declared.inner.Inner.{Inner}

abbrev pub with_block : Block → Inner → Inner
with_block b i = record { settings = i.settings; block = b; deviation = i.deviation; heartbeat = i.heartbeat }

abbrev pub with_deviation : ℤ → Inner → Inner
with_deviation z i = record { settings = i.settings; block = i.block; deviation = z; heartbeat = i.heartbeat }

abbrev pub flipped : Inner → Inner
flipped i = record { settings = i.settings; block = i.block; deviation = i.deviation; heartbeat = not i.heartbeat }
