-- The responses of a measuring block: the word of each, what each word says, and the same in plain words.
use Rattle.std.specs.Prelude.{ℕ, cond, List, codes, ◌==◌}
use Rattle.board.specs.declared.response.Response.{Response}
use Rattle.board.specs.declared.response.Response.TheVariants.{InProcess, AbortInProcess, StepDone, NotPossible, Late, NotKnown, BadValue, Aborted, StepFailed, Done}

abbrev pub word_of : Response → ℕ
word_of InProcess = 2047
word_of AbortInProcess = 2004
word_of StepDone = 2045
word_of NotPossible = 0x8001
word_of Late = 0x8002
word_of NotKnown = 0x8004
word_of BadValue = 0x8008
word_of Aborted = 0x8010
word_of StepFailed = 0x8020
word_of (Done w) = w

-- any other word is a command's own number, which says that it ended well
abbrev pub response_of : ℕ → Response
response_of w =
    cond (w == 2047) InProcess
    (cond (w == 2004) AbortInProcess
    (cond (w == 2045) StepDone
    (cond (w == 0x8001) NotPossible
    (cond (w == 0x8002) Late
    (cond (w == 0x8004) NotKnown
    (cond (w == 0x8008) BadValue
    (cond (w == 0x8010) Aborted
    (cond (w == 0x8020) StepFailed (Done w)))))))))

abbrev pub response_words : Response → List ℕ
response_words InProcess = codes "in process"
response_words AbortInProcess = codes "abort in process"
response_words StepDone = codes "first step done"
response_words NotPossible = codes "8001h, not possible or not allowed"
response_words Late = codes "8002h, late"
response_words NotKnown = codes "8004h, not known"
response_words BadValue = codes "8008h, value not allowed"
response_words Aborted = codes "8010h, aborted"
response_words StepFailed = codes "8020h, step failed"
response_words (Done w) = codes "done"
