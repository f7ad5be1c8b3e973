-- What the scale did with a command that a scan closed.
use Rattle.std.specs.Prelude.{ℕ, cond, List, ◌++◌, Some, None, codes, Option, ◌==◌}
use Rattle.std.specs.Fmt.{signed_decimal}
use Rattle.std.specs.Option.{option_and}
use Rattle.weigher.specs.declared.orders.Order.{Order}
use Rattle.weigher.specs.declared.orders.Order.TheVariants as order
use Rattle.board.specs.declared.command.Class.{Class}
use Rattle.board.specs.declared.command.Class.TheVariants as class
use Rattle.board.specs.declared.look.Look.{Look}
use Rattle.board.specs.declared.note.Note.{Note}
use Rattle.board.specs.Commands.{class_of}
use Rattle.explain.specs.declared.effect.Effect.{Effect}
use Rattle.explain.specs.declared.effect.Effect.TheVariants.{Emptied, Tared, Zeroed, Cleared, Preset, Tested, Kept}

-- a command of this class was closed by its own number, and look tells this then
abbrev pub ordered_by : Order → Look → Option Effect
ordered_by order.TareWhenStill after = Some (Tared after.tare)
ordered_by order.TareNow after = Some (Tared after.tare)
ordered_by order.ZeroWhenStill after = Some (Zeroed after.zero)
ordered_by order.ZeroNow after = Some (Zeroed after.zero)
ordered_by order.ClearTare after = Some Cleared
ordered_by o after = None

abbrev pub done_by : Option Class → Look → Option Effect
done_by (Some (class.Order o)) after = ordered_by o after
done_by (Some class.PresetTare) after = Some (Preset after.tare)
done_by (Some class.WeightTest) after = Some (Tested after.deviation)
done_by c after = None

-- a command that was closed by an error left the scale as it was, and that is told where done it would have had an effect
abbrev pub closed_by : ℕ → Option ℕ → Look → Option Effect
closed_by w None after = None
closed_by w (Some r) after = cond (w == r) (done_by (class_of w) after) (option_and (done_by (class_of w) after) (Some Kept))

-- no command was closed; 2045 says that the weight test has its empty weight
abbrev pub open_by : Option ℕ → Option Effect
open_by None = None
open_by (Some r) = cond (r == 2045) (Some Emptied) None

abbrev pub effect_in : Option ℕ → Option ℕ → Look → Option Effect
effect_in None posted after = open_by posted
effect_in (Some w) posted after = closed_by w posted after

abbrev pub effect_of : Note → Look → Option Effect
effect_of n after = effect_in n.closed n.posted after

abbrev pub effect_words : Effect → List ℕ
effect_words Emptied = codes "The empty weight is taken."
effect_words (Tared t) = codes "The scale has taken the tare, " ++ (signed_decimal t ++ codes " g.")
effect_words (Zeroed z) = codes "The scale has taken the zero, " ++ (signed_decimal z ++ codes " g, and has no tare.")
effect_words Cleared = codes "The scale has cleared the tare."
effect_words (Preset t) = codes "The scale has preset the tare, " ++ (signed_decimal t ++ codes " g.")
effect_words (Tested d) = codes "The scale is off by " ++ (signed_decimal d ++ codes " g.")
effect_words Kept = codes "The scale keeps its zero and tare."
