-- The registers of a block after a response is posted or shown, and after a word was compared.
use Rattle.std.specs.Prelude.{ℕ, ◌+◌, ◌%◌, Some, None, Option}
use Rattle.board.specs.declared.block.Block.{Block}
use Rattle.board.specs.declared.block.State.{State}
use Rattle.board.specs.declared.block.State.TheVariants.{Ready, Working, FirstStep, FirstFailed, Between, SecondStep, SecondFailed, Cancelling}
use Rattle.board.specs.declared.report.Report.{Report}

-- the word becomes the compared word
abbrev pub compares : ℕ → Block → Block
compares w b = record { compared = w; report = b.report; response = b.response; sequence = b.sequence; state = b.state }

-- a response is shown without posting it, and the command is in a state
abbrev pub shown : ℕ → State → Block → Block
shown r s b = record { compared = b.compared; report = b.report; response = r; sequence = b.sequence; state = s }

-- a response is posted: it is shown, and the sequence goes on by one, from 3 to 0
abbrev pub posted : ℕ → State → Block → Block
posted r s b = record { compared = b.compared; report = b.report; response = r; sequence = (b.sequence + 1) % 4; state = s }

abbrev pub selects : Report → Block → Block
selects r b = record { compared = b.compared; report = r; response = b.response; sequence = b.sequence; state = b.state }

-- the command word that is open
abbrev pub open_word : State → Option ℕ
open_word Ready = None
open_word (Working w) = Some w
open_word FirstStep = Some 440
open_word FirstFailed = Some 440
open_word (Between e) = Some 440
open_word (SecondStep e v) = Some 440
open_word (SecondFailed e) = Some 440
open_word (Cancelling w) = Some w
