-- What is to be done about a command word that differs from the compared word.
use Rattle.std.specs.Prelude.{ℕ, cond, ◌&&◌, ℤ, pos, Some, None, Option, int_le}
use Rattle.weigher.specs.declared.orders.Order.{Order as WeigherOrder}
use Rattle.weigher.specs.declared.orders.Order.TheVariants.{PresetTare as presetTo, Settle}
use Rattle.board.specs.declared.block.State.{State}
use Rattle.board.specs.declared.block.State.TheVariants.{Ready, Working, FirstStep, FirstFailed, Between, SecondStep, SecondFailed, Cancelling}
use Rattle.board.specs.declared.block.steps.Judged.{Judged}
use Rattle.board.specs.declared.block.steps.Verdict.{Verdict}
use Rattle.board.specs.declared.block.steps.Verdict.TheVariants.{Ignored, Closed, Selected, Opened, Started, Failed, Cancelled}
use Rattle.board.specs.declared.command.StepWord.{StepWord}
use Rattle.board.specs.declared.command.StepWord.TheVariants.{Next, Cancel, Retry, Skip}
use Rattle.board.specs.declared.command.Class.{Class}
use Rattle.board.specs.declared.response.Response.TheVariants as response
use Rattle.board.specs.declared.command.Class.TheVariants.{Report, NoOperation, PresetTare, Order, WeightTest, Step}

abbrev pub step_in : Option Class → Option StepWord
step_in None = None
step_in (Some (Report r)) = None
step_in (Some NoOperation) = None
step_in (Some PresetTare) = None
step_in (Some (Order o)) = None
step_in (Some WeightTest) = None
step_in (Some (Step s)) = Some s

-- the step word that a word is; its mask is not looked at
abbrev pub step_of : Judged → Option StepWord
step_of j = step_in j.class

-- a word that begins an order, and is open while the order stands
abbrev pub opened_as : Judged → WeigherOrder → Verdict
opened_as j o = Opened o (Working j.word)

-- the preset needs a whole value
abbrev pub preset_as : Judged → Option ℤ → Verdict
preset_as j None = Closed response.BadValue
preset_as j (Some v) = opened_as j (presetTo v)

abbrev pub class_as : Judged → Option Class → Verdict
class_as j None = Closed response.NotKnown
class_as j (Some (Report r)) = Selected r
class_as j (Some NoOperation) = Closed (response.Done j.word)
class_as j (Some PresetTare) = preset_as j j.value
class_as j (Some (Order o)) = opened_as j o
class_as j (Some WeightTest) = Opened Settle FirstStep
class_as j (Some (Step s)) = Closed response.NotPossible

-- a word that is taken: a flawed one and a step word are not possible, one that is not listed is not known
abbrev pub taken_as : Judged → Verdict
taken_as j = cond j.flawed (Closed response.NotPossible) (class_as j j.class)

-- the second step of the weight test, with a value that must be whole and from 1 to the capacity
abbrev pub second_step : ℤ → Option ℤ → ℕ → Verdict
second_step e None c = Failed (SecondFailed e)
second_step e (Some v) c = cond (int_le (pos 1) v && int_le v (pos c)) (Started (SecondStep e v) (SecondFailed e)) (Failed (SecondFailed e))

-- the command w heeds cancel alone
abbrev pub cancel_only : ℕ → Option StepWord → Verdict
cancel_only w None = Ignored
cancel_only w (Some Next) = Ignored
cancel_only w (Some Cancel) = Cancelled w
cancel_only w (Some Retry) = Ignored
cancel_only w (Some Skip) = Ignored

-- the weight test heeds cancel, and retry by what that does here
abbrev pub or_retry : Verdict → Option StepWord → Verdict
or_retry v None = Ignored
or_retry v (Some Next) = Ignored
or_retry v (Some Cancel) = Cancelled 440
or_retry v (Some Retry) = v
or_retry v (Some Skip) = Ignored

-- and next likewise
abbrev pub or_next : Verdict → Option StepWord → Verdict
or_next v None = Ignored
or_next v (Some Next) = v
or_next v (Some Cancel) = Cancelled 440
or_next v (Some Retry) = Ignored
or_next v (Some Skip) = Ignored

abbrev pub verdict_on : State → Judged → ℕ → Verdict
verdict_on Ready j c = taken_as j
verdict_on (Working w) j c = cancel_only w (step_of j)
verdict_on FirstStep j c = cancel_only 440 (step_of j)
verdict_on FirstFailed j c = or_retry (Started FirstStep FirstFailed) (step_of j)
verdict_on (Between e) j c = or_next (second_step e j.value c) (step_of j)
verdict_on (SecondStep e v) j c = cancel_only 440 (step_of j)
verdict_on (SecondFailed e) j c = or_retry (second_step e j.value c) (step_of j)
verdict_on (Cancelling w) j c = Ignored
