-- The value of a report.
use Rattle.std.specs.Prelude.{ℕ, cond, ℤ}
use Rattle.weigher.specs.Scale.{Scale, gross, net}
use Rattle.wire.specs.Rounding.{rounded as roundedBy}
use Rattle.board.specs.declared.report.Quantity.{Quantity}
use Rattle.board.specs.declared.report.Quantity.TheVariants.{Gross, Tare, Net, Deviation}
use Rattle.board.specs.declared.report.Report.{Report}

abbrev pub quantity_of : Quantity → ℤ → Scale → ℤ
quantity_of Gross dev s = gross s
quantity_of Tare dev s = s.tare
quantity_of Net dev s = net s
quantity_of Deviation dev s = dev

-- a weight, rounded to the increment d or as it is; the deviation is never rounded
abbrev pub report_of : ℕ → Report → ℤ → Scale → ℤ
report_of d r dev s = elim r.quantity [ Gross ↦ cond r.rounded (roundedBy d (gross s)) (gross s) | Tare ↦ cond r.rounded (roundedBy d s.tare) s.tare | Net ↦ cond r.rounded (roundedBy d (net s)) (net s) | Deviation ↦ dev ]
