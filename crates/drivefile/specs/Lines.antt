-- The lines of a listing, byte for byte.
use Rattle.std.specs.Prelude.{ℕ, ◌+◌, ◌/◌, ◌%◌, cond, List, [], ◌∷◌, ◌++◌, Some, None, codes, decimal, Option, nat_lt}
use Rattle.std.specs.List.{flat_map}
use Rattle.board.specs.declared.journal.Answer.{Answer}
use Rattle.board.specs.declared.journal.Answer.TheVariants.{Scanned, Replied, Looked, Declined}
use Rattle.board.specs.declared.journal.Entry.{Entry}
use Rattle.board.specs.declared.note.Note.{Note}
use Rattle.board.specs.Declines.{number_of}

-- a hexadecimal digit, in lower case
abbrev pub hex_digit : ℕ → ℕ
hex_digit n = cond (nat_lt n 10) (48 + n) (87 + n)

abbrev pub hex_byte : ℕ → List ℕ
hex_byte b = hex_digit (b / 16) ∷ hex_digit (b % 16) ∷ []

abbrev pub hex_bytes : List ℕ → List ℕ
hex_bytes bytes = flat_map hex_byte bytes

-- a word of four digits, or four dashes for none
abbrev pub word_field : Option ℕ → List ℕ
word_field None = codes "----"
word_field (Some w) = hex_byte (w / 256) ++ hex_byte (w % 256)

-- the three words of a note, each after a blank
abbrev pub note_fields : Note → List ℕ
note_fields n = (32 ∷ word_field n.taken) ++ ((32 ∷ word_field n.posted) ++ (32 ∷ word_field n.closed))

abbrev pub scan_line : List ℕ → Note → List ℕ
scan_line read n = codes "scan " ++ (hex_bytes read ++ (note_fields n ++ codes "\n"))

abbrev pub read_line : List ℕ → List ℕ
read_line strip = codes "read " ++ (hex_bytes strip ++ codes "\n")

abbrev pub decline_line : ℕ → List ℕ
decline_line n = codes "read no " ++ (decimal n ++ codes "\n")

abbrev pub fault_line : ℕ → ℕ → List ℕ
fault_line n p = codes "fault " ++ (decimal n ++ (codes " at " ++ (decimal p ++ codes "\n")))

abbrev pub end_line : List ℕ
end_line = codes "end\n"

-- the line of a call; a drive file has no call that only looks
abbrev pub answer_line : Answer → List ℕ
answer_line (Scanned write read n load) = scan_line read n
answer_line (Replied strip) = read_line strip
answer_line (Looked l) = []
answer_line (Declined d) = decline_line (number_of d)

abbrev pub entry_lines : List Entry → List ℕ
entry_lines entries = flat_map (λ e. answer_line e.answer) entries
