-- What a verdict does to a block and to the weigher below, and the note that it leaves.
use Rattle.std.specs.Prelude.{ℕ, cond, Some, None, Option, ◌==◌}
use Rattle.weigher.specs.declared.orders.Order.TheVariants.{Settle}
use Rattle.weigher.specs.Scale.{Scale}
use Rattle.weigher.specs.Rules.{begun, dropped}
use Rattle.board.specs.declared.block.Block.{Block}
use Rattle.board.specs.declared.block.State.{State}
use Rattle.board.specs.declared.block.State.TheVariants.{Ready, Cancelling}
use Rattle.board.specs.declared.block.steps.Verdict.{Verdict}
use Rattle.board.specs.declared.block.steps.Verdict.TheVariants.{Ignored, Closed, Selected, Opened, Started, Failed, Cancelled}
use Rattle.board.specs.declared.note.Note.{Note}
use Rattle.board.specs.declared.response.Response.{Response}
use Rattle.board.specs.declared.response.Response.TheVariants.{NotKnown, BadValue, NotPossible}
use Rattle.board.specs.Notes.{nothing, takes, at_once, answers}
use Rattle.board.specs.Registers.{shown, posted, selects}
use Rattle.board.specs.Responses.{word_of}

-- the response to a word whose order was declined by this number: not known, a value out of range, or an order that stands
abbrev pub declined_as : ℕ → Response
declined_as n = cond (n == 22) NotKnown (cond (n == 23) BadValue NotPossible)

-- a word is taken: its order stands, or it is closed with the decline
abbrev pub opened_by : ℕ → State → Block → Option ℕ × Scale → Block × Note × Scale
opened_by w st b (None, s) = (shown 2047 st b, takes w, s)
opened_by w st b (Some n, s) = (posted (word_of (declined_as n)) Ready b, at_once w (word_of (declined_as n)), s)

-- a step starts, or fails
abbrev pub started_by : State → State → Block → Option ℕ × Scale → Block × Note × Scale
started_by st failed b (None, s) = (shown 2047 st b, nothing, s)
started_by st failed b (Some n, s) = (posted 0x8020 failed b, answers 0x8020 None, s)

-- the verdict on the word w is carried out, with a weigher of patience p
abbrev pub acted : ℕ → ℕ → Verdict → Block → Scale → Block × Note × Scale
acted p w Ignored b s = (b, nothing, s)
acted p w (Closed r) b s = (posted (word_of r) Ready b, at_once w (word_of r), s)
acted p w (Selected r) b s = (posted w Ready (selects r b), at_once w w, s)
acted p w (Opened o st) b s = opened_by w st b (begun p o s)
acted p w (Started st failed) b s = started_by st failed b (begun p Settle s)
acted p w (Failed st) b s = (posted 0x8020 st b, answers 0x8020 None, s)
acted p w (Cancelled v) b s = (shown 2004 (Cancelling v) b, nothing, (dropped s).1)
