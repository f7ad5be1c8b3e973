-- The plain words for reports, commands and the sensor.
use Rattle.std.specs.Prelude.{ℕ, ◌/◌, ◌%◌, cond, not, List, ◌++◌, Some, None, codes, Option, ◌==◌}
use Rattle.weigher.specs.declared.answers.Sensed.{Sensed}
use Rattle.weigher.specs.Answers.{sensed_of}
use Rattle.weigher.specs.declared.orders.Order.{Order}
use Rattle.weigher.specs.declared.orders.Order.TheVariants as order
use Rattle.board.specs.declared.command.Class.{Class}
use Rattle.board.specs.declared.command.Class.TheVariants as class
use Rattle.board.specs.declared.report.Quantity.{Quantity}
use Rattle.board.specs.declared.report.Quantity.TheVariants as quantity
use Rattle.board.specs.declared.report.Report.{Report}
use Rattle.board.specs.Commands.{class_of}

-- the report that a command word selects
abbrev pub report_in : Option Class → Option Report
report_in (Some (class.Report r)) = Some r
report_in c = None

abbrev pub report_by : ℕ → Option Report
report_by w = report_in (class_of w)

abbrev pub quantity_words : Quantity → List ℕ
quantity_words quantity.Gross = codes "gross"
quantity_words quantity.Tare = codes "tare"
quantity_words quantity.Net = codes "net"
quantity_words quantity.Deviation = codes "deviation"

abbrev pub report_words : Report → List ℕ
report_words r = quantity_words r.quantity ++ cond r.rounded (codes ", rounded") (codes "")

-- what a command word of a class asks for
abbrev pub order_words : Order → List ℕ
order_words order.TareWhenStill = codes "tare when still"
order_words order.ZeroWhenStill = codes "zero when still"
order_words order.ClearTare = codes "clear tare"
order_words order.TareNow = codes "tare now"
order_words order.ZeroNow = codes "zero now"
order_words o = codes "a step word or no command"

abbrev pub command_words : Option Class → List ℕ
command_words (Some (class.Report r)) = codes "report " ++ report_words r
command_words (Some class.NoOperation) = codes "no operation"
command_words (Some class.PresetTare) = codes "preset tare"
command_words (Some (class.Order o)) = order_words o
command_words (Some class.WeightTest) = codes "weight test"
command_words c = codes "a step word or no command"

-- what the status word says of the sensor: bit 4 is a fault, bit 6 is moving
abbrev pub sensed_in : ℕ → Sensed
sensed_in status = sensed_of (status / 16 % 2 == 1) (not (status / 64 % 2 == 1))
