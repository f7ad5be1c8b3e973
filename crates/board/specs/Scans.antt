-- What an answered scan does, once the weigher was tended: a response that is due is posted, else the command word is judged.
use Rattle.wire.specs.declared.block.MeasuringBlockWritten.{MeasuringBlockWritten as Written}
use Rattle.std.specs.Prelude.{◌≡◌, ℕ, cond, ◌||◌, List, Some, None, Option, ◌==◌, nat_le}
use Rattle.std.specs.Option.{unwrap_or}
use Rattle.weigher.specs.declared.answers.Told.{Told}
use Rattle.weigher.specs.Kind.{Kind}
use Rattle.weigher.specs.Scale.{Scale, gross}
use Rattle.weigher.specs.Rules.{worked, sensed}
use Rattle.wire.specs.declared.order.Order.{Order}
use Rattle.wire.specs.Blocks.{value_in, mask_in, command_in}
use Rattle.wire.specs.Floats.{whole_of}
use Rattle.board.specs.declared.block.Block.{Block}
use Rattle.board.specs.declared.block.steps.Due.{Due}
use Rattle.board.specs.declared.block.steps.Judged.{Judged}
use Rattle.board.specs.declared.board.Board.{Board}
use Rattle.board.specs.declared.inner.Inner.{Inner}
use Rattle.board.specs.declared.note.Note.{Note}
use Rattle.board.specs.Acting.{acted}
use Rattle.board.specs.Commands.{class_of}
use Rattle.board.specs.Dues.{due_of}
use Rattle.board.specs.Inners.{with_block, with_deviation, flipped}
use Rattle.board.specs.Judging.{verdict_on}
use Rattle.board.specs.Notes.{nothing, answers}
use Rattle.board.specs.Registers.{compares, posted, open_word}
use Rattle.board.specs.Responses.{word_of}

-- the command word of a block written, with what it is judged by
abbrev pub judged_of : Written → Judged
judged_of w = record {
  word = w.command;
  flawed = nat_le 2048 w.command || nat_le 2 w.mask;
  class = class_of w.command;
  value = whole_of w.value;
}

abbrev pub judged_in : Order → List ℕ → Judged
judged_in o w = judged_of (record { value = value_in o w; mask = mask_in o w; command = command_in o w })

-- the word that a response closes: the open one, where it leaves none open
abbrev pub closed_by : Option ℕ → Option ℕ → Option ℕ
closed_by before None = before
closed_by before (Some w) = None

-- a response that is due is posted
abbrev pub paid : Due → Inner → Inner
paid d i = with_deviation (unwrap_or d.deviation i.deviation) (with_block (posted (word_of d.response) d.state i.block) i)

abbrev pub paid_note : Due → Inner → Note
paid_note d i = answers (word_of d.response) (closed_by (open_word i.block.state) (open_word d.state))

-- the board's registers with the block that acting left
abbrev pub in_board : Inner → Block × Note × Scale → Inner × Note × Scale
in_board i r = (with_block r.0 i, r.1, r.2)

-- a command word is judged if it differs from the compared word, which it then becomes
abbrev pub judged : ℕ → Inner → Scale → Judged → Inner × Note × Scale
judged p i s j =
    cond (j.word == i.block.compared)
    (i, nothing, s)
    (in_board i (acted p j.word (verdict_on i.block.state j s.capacity) (compares j.word i.block) s))

abbrev pub duly : ℕ → Inner → Scale → Judged → Option Due → Inner × Note × Scale
duly p i s j None = judged p i s j
duly p i s j (Some d) = (paid d i, paid_note d i, s)

-- a response that is due comes first
abbrev pub responded : ℕ → Inner → Told → Scale → Judged → Inner × Note × Scale
responded p i told s j = duly p i s j (due_of i.block.state told (gross s))

-- the heartbeat flips
abbrev pub beaten : Inner × Note × Scale → Inner × Note × Scale
beaten r = (flipped r.0, r.1, r.2)

-- with patience p, after a tend that told this and left the scale s
unfoldable pub answered : ℕ → Inner → Told → Scale → List ℕ → Inner × Note × Scale
answered p i told s write = beaten (responded p i told s (judged_in i.settings.order write))

-- an answered scan, from the board before it to the board after it, over any kind of weigher
pub record Scanned {W : Type 0} (k : Kind W) (before : Board W) (write : List ℕ) (after : Board W) (n : Note) : Type 0 where
  -- the weigher after its tend, and what the tend told
  pub tended : W
  pub told : Told
  pub moved : k.moves before.weigher tended
  pub work : (told, k.meaning tended) ≡ worked (sensed (k.meaning before.weigher) (k.meaning tended))
  pub rules : (after.inner, n, k.meaning after.weigher) ≡ answered k.patience before.inner told (k.meaning tended) write
  pub kept : k.keeps tended after.weigher
