-- The read image of a board: the value of the selected report, the status word and the response.
use Rattle.std.specs.Prelude.{ℕ, List}
use Rattle.weigher.specs.Scale.{Scale}
use Rattle.wire.specs.Blocks.{read_image}
use Rattle.wire.specs.Floats.{bits_of}
use Rattle.board.specs.declared.inner.Inner.{Inner}
use Rattle.board.specs.Status.{status_of, status_word}
use Rattle.board.specs.Values.{report_of}

abbrev pub image_of : Inner → Scale → List ℕ
image_of i s =
    read_image i.settings.order (bits_of (report_of i.settings.increment.grams i.block.report i.deviation s)) (status_word (status_of i s)) i.block.response
