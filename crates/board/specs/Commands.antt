-- The command list: each number with its class.
use Rattle.std.specs.Prelude.{ℕ, Bool, true, false, List, [], ◌∷◌, find, Option, ◌==◌}
use Rattle.std.specs.Option.{option_map}
use Rattle.weigher.specs.declared.orders.Order.TheVariants.{TareWhenStill, ZeroWhenStill, TareNow, ZeroNow, ClearTare}
use Rattle.board.specs.declared.report.Quantity.{Quantity}
use Rattle.board.specs.declared.report.Quantity.TheVariants.{Gross, Tare, Net, Deviation}
use Rattle.board.specs.declared.report.Report.{Report as ReportOf}
use Rattle.board.specs.declared.command.StepWord.TheVariants.{Next, Cancel, Retry, Skip}
use Rattle.board.specs.declared.command.Class.{Class}
use Rattle.board.specs.declared.command.Class.TheVariants.{Report, NoOperation, PresetTare, Order, WeightTest, Step}

abbrev pub report : Quantity → Bool → ReportOf
report q r = record { quantity = q; rounded = r }

abbrev row : ℕ → Class → ℕ × Class
row n c = (n, c)

abbrev pub commands : List (ℕ × Class)
commands =
    row 0 (Report (report Gross true)) ∷
    row 1 (Report (report Gross true)) ∷
    row 2 (Report (report Tare true)) ∷
    row 3 (Report (report Net true)) ∷
    row 5 (Report (report Gross false)) ∷
    row 6 (Report (report Tare false)) ∷
    row 7 (Report (report Net false)) ∷
    row 1800 (Report (report Deviation false)) ∷
    row 2000 NoOperation ∷
    row 201 PresetTare ∷
    row 400 (Order TareWhenStill) ∷
    row 401 (Order ZeroWhenStill) ∷
    row 402 (Order ClearTare) ∷
    row 403 (Order TareNow) ∷
    row 404 (Order ZeroNow) ∷
    row 440 WeightTest ∷
    row 2002 (Step Next) ∷
    row 2003 (Step Next) ∷
    row 2004 (Step Cancel) ∷
    row 2005 (Step Retry) ∷
    row 2006 (Step Skip) ∷ []

-- the class that a list gives a number
abbrev pub lookup : List (ℕ × Class) → ℕ → Option Class
lookup xs n = option_map (λ (r : ℕ × Class). r.1) (find (λ (r : ℕ × Class). r.0 == n) xs)

unfoldable pub class_of : ℕ → Option Class
class_of n = lookup commands n
