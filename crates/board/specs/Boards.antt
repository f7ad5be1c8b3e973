-- A new board, what look tells of a board, and the reply to an acyclic read.
use Rattle.std.specs.Prelude.{ℕ, true, false, cond, List, pos, Some, None, Option, ◌==◌}
use Rattle.weigher.specs.Scale.{Scale}
use Rattle.wire.specs.Blocks.{strip_bytes}
use Rattle.wire.specs.Floats.{bits_of}
use Rattle.board.specs.declared.block.State.TheVariants.{Ready}
use Rattle.board.specs.declared.inner.Inner.{Inner}
use Rattle.board.specs.declared.look.Look.{Look}
use Rattle.board.specs.declared.report.Quantity.TheVariants.{Gross, Tare, Net}
use Rattle.board.specs.declared.report.Report.{Report}
use Rattle.board.specs.declared.setting.Settings.{Settings}
use Rattle.board.specs.Commands.{report}
use Rattle.board.specs.Registers.{open_word}
use Rattle.board.specs.Values.{report_of}

-- nothing is open, and all registers are 0: report 0 is gross, rounded
abbrev pub new_inner : Settings → Inner
new_inner t = record {
  settings = t;
  block = record { compared = 0; report = report Gross true; response = 0; sequence = 0; state = Ready };
  deviation = pos 0;
  heartbeat = false;
}

abbrev pub look_of : Inner → Scale → Look
look_of i s = record { «open» = open_word i.block.state; zero = s.zero; tare = s.tare; deviation = i.deviation }

-- attributes 1 to 7 are reports 0, 1, 2, 3, 5, 6 and 7
abbrev pub attribute_report : ℕ → Option Report
attribute_report a =
    cond (a == 1) (Some (report Gross true))
    (cond (a == 2) (Some (report Gross true))
    (cond (a == 3) (Some (report Tare true))
    (cond (a == 4) (Some (report Net true))
    (cond (a == 5) (Some (report Gross false))
    (cond (a == 6) (Some (report Tare false))
    (cond (a == 7) (Some (report Net false)) None))))))

-- the four bytes of a report's value, in the board's order
abbrev pub reply_of : Inner → Scale → Report → List ℕ
reply_of i s r = strip_bytes i.settings.order (bits_of (report_of i.settings.increment.grams r i.deviation s))
