-- The line that is printed where there is no listing.
use Rattle.std.specs.Prelude.{ℕ, List, ◌++◌, codes, decimal}
use Rattle.weigher.specs.Answers.{number_of, reason_of}
use Rattle.replay.specs.declared.failure.Flaw.{Flaw}
use Rattle.replay.specs.declared.failure.Flaw.TheVariants as flaw
use Rattle.replay.specs.declared.failure.Failure.{Failure}
use Rattle.replay.specs.declared.failure.Failure.TheVariants.{Input, Memory, Streams}

abbrev pub flaw_words : Flaw → List ℕ
flaw_words flaw.MissingLine = codes "missing"
flaw_words flaw.NoSettings = codes "no capacity and tolerance"
flaw_words flaw.NoOrder = codes "no such order"
flaw_words flaw.NoNumber = codes "no number"
flaw_words (flaw.Declined d) = codes "declined with " ++ (decimal (number_of d) ++ (codes ", " ++ reason_of d))

abbrev pub failure_line : Failure → List ℕ
failure_line (Input n f) = codes "line " ++ (decimal n ++ (codes ": " ++ flaw_words f))
failure_line Memory = codes "out of memory"
failure_line Streams = codes "standard input or output failed"
