-- A drive file explained: each line of its listing, and below it what happened in plain words.
use Rattle.std.specs.Prelude.{ℕ, cond, true, List, [], ◌∷◌, ◌++◌, Some, None, Ok, Err, codes, Option, Result, ◌==◌, slice_index}
use Rattle.std.specs.Option.{unwrap_or}
use Rattle.wire.specs.declared.order.Order.{Order}
use Rattle.wire.specs.Blocks.{value_in, mask_in, command_in}
use Rattle.wire.specs.Floats.{whole_of}
use Rattle.board.specs.declared.look.Look.{Look as LookOf}
use Rattle.board.specs.declared.note.Note.{Note}
use Rattle.board.specs.declared.report.Quantity.TheVariants.{Gross}
use Rattle.board.specs.declared.report.Report.{Report}
use Rattle.board.specs.declared.setting.Settings.{Settings}
use Rattle.board.specs.declared.journal.Answer.{Answer}
use Rattle.board.specs.declared.journal.Answer.TheVariants.{Scanned, Replied, Looked, Declined}
use Rattle.board.specs.declared.journal.Call.{Call}
use Rattle.board.specs.declared.journal.Call.TheVariants.{Scan, Read, Look}
use Rattle.board.specs.declared.journal.Entry.{Entry}
use Rattle.board.specs.Boards.{attribute_report}
use Rattle.board.specs.Commands.{report}
use Rattle.board.specs.Declines.{decline_words}
use Rattle.drivefile.specs.declared.fault.Fault.{Fault}
use Rattle.drivefile.specs.Drives.{tail_line}
use Rattle.drivefile.specs.Faults.{number_of, fault_words}
use Rattle.drivefile.specs.Lines.{answer_line, fault_line}
use Rattle.drivefile.specs.Listings.{Text, TextOf}
use Rattle.explain.specs.declared.words.Reply.{Reply}
use Rattle.explain.specs.declared.words.Scan.{Scan as ScanOf}
use Rattle.explain.specs.Names.{report_by}
use Rattle.explain.specs.Words.{scan_words, reply_words}

-- what a new board reports
abbrev pub gross_rounded : Report
gross_rounded = report Gross true

-- the report that the value shows after a scan: one that the scan closed by its own number, or else the one before
abbrev pub selected_in : Report → Option ℕ → Option ℕ → Report
selected_in s None posted = s
selected_in s (Some w) None = s
selected_in s (Some w) (Some r) = cond (w == r) (unwrap_or (report_by w) s) s

abbrev pub selected_by : Report → Answer → Report
selected_by s (Scanned write read note load) = selected_in s note.closed note.posted
selected_by s (Replied strip) = s
selected_by s (Looked l) = s
selected_by s (Declined d) = s

-- what a read image in order o shows, with the selected report, the note and what look tells then
abbrev pub scan_in : Order → Report → List ℕ → Note → LookOf → ScanOf
scan_in o s read note after = record { report = s; value = whole_of (value_in o read); status = mask_in o read; shown = command_in o read; note = note; after = after }

-- the attribute that a call reads
abbrev pub attribute_of : Call → ℕ
attribute_of (Scan write n) = 0
attribute_of (Read address n) = address.attribute
attribute_of Look = 0

-- a strip of four bytes has the value of a block that begins with them
abbrev pub block_of : List ℕ → List ℕ
block_of strip = slice_index strip 0 ∷ slice_index strip 1 ∷ slice_index strip 2 ∷ slice_index strip 3 ∷ 0 ∷ 0 ∷ 0 ∷ 0 ∷ []

abbrev pub reply_in : Order → Call → List ℕ → Reply
reply_in o call strip = record {
  attribute = attribute_of call;
  report = unwrap_or (attribute_report (attribute_of call)) gross_rounded;
  value = whole_of (value_in o (block_of strip));
}

abbrev pub answer_words : Order → Report → Call → Answer → LookOf → List ℕ
answer_words o s call (Scanned write read note load) after = scan_words (scan_in o s read note after)
answer_words o s call (Replied strip) after = reply_words (reply_in o call strip)
answer_words o s call (Looked l) after = []
answer_words o s call (Declined d) after = codes "declined: " ++ decline_words d

-- a line of words stands under its line of the listing, after four blanks
abbrev pub indented : List ℕ → List ℕ
indented words = codes "    " ++ (words ++ codes "\n")

abbrev pub explained_entry : Order → Report → Call → Entry → List ℕ
explained_entry o s call e = answer_line e.answer ++ indented (answer_words o s call e.answer e.after)

abbrev pub explained_lines : Order → Report → List Call → List Entry → List ℕ
explained_lines o s [] es = []
explained_lines o s (call ∷ calls) [] = []
explained_lines o s (call ∷ calls) (e ∷ es) = explained_entry o (selected_by s e.answer) call e ++ explained_lines o (selected_by s e.answer) calls es

abbrev pub tail_words : Result (Unit {0}) Fault → List ℕ
tail_words (Ok x) = codes "the file ends here"
tail_words (Err f) = fault_words (number_of f.flaw)

abbrev pub fault_text : ℕ → ℕ → List ℕ
fault_text n p = fault_line n p ++ indented (fault_words n)

abbrev pub run_text : Settings → List Call → List Entry → Result (Unit {0}) Fault → List ℕ
run_text s calls journal tail = explained_lines s.order gross_rounded calls journal ++ (tail_line tail ++ indented (tail_words tail))

abbrev pub explanation_text : Text
explanation_text = record { of_fault = fault_text; of_run = run_text }

-- these bytes explain this file
abbrev pub Explained : List ℕ → List ℕ → Type 0
Explained file out = TextOf explanation_text file out
