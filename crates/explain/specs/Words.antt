-- What a scan or an acyclic read told, in plain words.
use Rattle.std.specs.Prelude.{ℕ, List, ◌++◌, ℤ, Some, None, codes, decimal, Option}
use Rattle.std.specs.Fmt.{signed_decimal}
use Rattle.std.specs.Option.{option_map}
use Rattle.board.specs.Commands.{class_of}
use Rattle.board.specs.Responses.{response_of, response_words}
use Rattle.weigher.specs.Answers.{sensed_word}
use Rattle.explain.specs.declared.words.Reply.{Reply}
use Rattle.explain.specs.declared.words.Scan.{Scan}
use Rattle.explain.specs.Effects.{effect_of, effect_words}
use Rattle.explain.specs.Names.{command_words, report_words, sensed_in}

-- a sentence after a blank, or nothing
abbrev pub sentence : {T : Type 0} → (T → List ℕ) → Option T → List ℕ
sentence words None = codes ""
sentence words (Some x) = codes " " ++ words x

-- the same where it may not be known what a value writes
abbrev pub sentence_output : {T : Type 0} → (T → Option (List ℕ)) → Option T → Option (List ℕ)
sentence_output output None = Some (codes "")
sentence_output output (Some x) = option_map (λ words. codes " " ++ words) (output x)

-- a value in grams; every weight that a board sends is whole
abbrev pub grams_words : Option ℤ → List ℕ
grams_words None = codes "no whole number"
grams_words (Some z) = signed_decimal z ++ codes " g"

-- the word taken, the response posted, the word closed, and the word that is open with the response that shows
abbrev pub taken_words : ℕ → List ℕ
taken_words w = codes "Takes " ++ (decimal w ++ (codes ", " ++ (command_words (class_of w) ++ codes ".")))

abbrev pub posted_words : ℕ → List ℕ
posted_words r = codes "Answers: " ++ (response_words (response_of r) ++ codes ".")

abbrev pub closed_words : ℕ → List ℕ
closed_words w = codes "Closes " ++ (decimal w ++ codes ".")

abbrev pub open_words : ℕ → ℕ → List ℕ
open_words shown w = codes "Open is " ++ (decimal w ++ (codes ": " ++ (response_words (response_of shown) ++ codes ".")))

-- the report with its grams and the sensor, and then what became of commands
abbrev pub scan_words : Scan → List ℕ
scan_words s =
    report_words s.report
    ++ (codes ": "
    ++ (grams_words s.value
    ++ (codes ", "
    ++ (sensed_word (sensed_in s.status)
    ++ (codes "."
    ++ (sentence taken_words s.note.taken
    ++ (sentence posted_words s.note.posted
    ++ (sentence closed_words s.note.closed
    ++ (sentence effect_words (effect_of s.note s.after) ++ sentence (open_words s.shown) s.after.«open»)))))))))

abbrev pub reply_words : Reply → List ℕ
reply_words r = codes "attribute " ++ (decimal r.attribute ++ (codes ", " ++ (report_words r.report ++ (codes ": " ++ (grams_words r.value ++ codes ".")))))
