-- The number of each fault of a drive file, and its plain words.
use Rattle.std.specs.Prelude.{ℕ, cond, List, codes, ◌==◌}
use Rattle.drivefile.specs.declared.fault.Flaw.{Flaw}
use Rattle.drivefile.specs.declared.fault.Flaw.TheVariants.{StrangeKind, CutShort, OutOfTurn, Overlong, BadOrder, BadIncrement, BadRamp}

abbrev pub number_of : Flaw → ℕ
number_of StrangeKind = 31
number_of CutShort = 32
number_of OutOfTurn = 33
number_of Overlong = 34
number_of BadOrder = 41
number_of BadIncrement = 42
number_of BadRamp = 44

-- a fault by its number
abbrev pub fault_words : ℕ → List ℕ
fault_words n =
    cond (n == 31) (codes "no such kind of record")
    (cond (n == 32) (codes "a record is missing or cut short")
    (cond (n == 33) (codes "a record is out of turn")
    (cond (n == 34) (codes "the file is too long")
    (cond (n == 41) (codes "no such order setting")
    (cond (n == 42) (codes "no such increment") (codes "the ramp is out of range"))))))
