-- The number and the words of each decline of a call on the board, and when a call is declined.
use Rattle.std.specs.Prelude.{ℕ, cond, List, is_some, Some, None, Ok, Err, codes, Option, Result, ◌==◌}
use Rattle.board.specs.Boards.{attribute_report}
use Rattle.board.specs.declared.address.Address.{Address}
use Rattle.board.specs.declared.declined.Declined.{Declined}
use Rattle.board.specs.declared.declined.Declined.TheVariants.{WriteMisfit, ReadMisfit, NoClass, NoInstance, NoAttribute, ReplyMisfit}

abbrev pub number_of : Declined → ℕ
number_of WriteMisfit = 11
number_of ReadMisfit = 12
number_of NoClass = 13
number_of NoInstance = 14
number_of NoAttribute = 15
number_of ReplyMisfit = 16

abbrev pub decline_words : Declined → List ℕ
decline_words WriteMisfit = codes "the write strip is not of eight bytes"
decline_words ReadMisfit = codes "the read strip is not of eight bytes"
decline_words NoClass = codes "no such class"
decline_words NoInstance = codes "no such instance"
decline_words NoAttribute = codes "no such attribute"
decline_words ReplyMisfit = codes "the strip is not of four bytes"

-- what a call answered: the decline's number, or none
abbrev pub decline_of : {A : Type 0} → Result A Declined → Option ℕ
decline_of (Ok a) = None
decline_of (Err e) = Some (number_of e)

-- a scan with a write strip of m bytes and a read strip of n: each has to be an image's eight
abbrev pub scan_decline : ℕ → ℕ → Option ℕ
scan_decline m n = cond (m == 8) (cond (n == 8) None (Some 12)) (Some 11)

-- an acyclic read: class 300h, instance 1, an attribute that holds a report, 1 to 7, and a strip of four bytes
abbrev pub read_decline : Address → ℕ → Option ℕ
read_decline address n =
    cond (address.class == 0x300) (cond (address.instance == 1) (cond (is_some (attribute_report address.attribute)) (cond (n == 4) None (Some 16)) (Some 15)) (Some 14)) (Some 13)
