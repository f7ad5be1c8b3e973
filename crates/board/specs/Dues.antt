-- The response that an open command is due after a tend.
use Rattle.std.specs.Prelude.{ℕ, ℤ, ◌-ℤ◌, Some, None, Option}
use Rattle.weigher.specs.declared.answers.Told.{Told}
use Rattle.weigher.specs.declared.answers.Told.TheVariants.{Idle, Waiting, Done, NotPossible, Late}
use Rattle.board.specs.declared.block.State.{State}
use Rattle.board.specs.declared.block.State.TheVariants.{Ready, Working, FirstStep, FirstFailed, Between, SecondStep, SecondFailed, Cancelling}
use Rattle.board.specs.declared.block.steps.Due.{Due}
use Rattle.board.specs.declared.response.Response.{Response}
use Rattle.board.specs.declared.response.Response.TheVariants as response

-- a response after which the command is in a state; where that is Ready, the command is closed
abbrev pub leaving : Response → State → Due
leaving r s = record { response = r; state = s; deviation = None }

abbrev pub closing : Response → Due
closing r = leaving r Ready

-- a command of one order: done posts its own number
abbrev pub order_due : ℕ → Told → Option Due
order_due w Idle = None
order_due w Waiting = None
order_due w Done = Some (closing (response.Done w))
order_due w NotPossible = Some (closing response.NotPossible)
order_due w Late = Some (closing response.Late)

-- a step of the weight test: done posts what it is worth, anything else that ends it leaves it failed
abbrev pub step_due : Due → State → Told → Option Due
step_due d failed Idle = None
step_due d failed Waiting = None
step_due d failed Done = Some d
step_due d failed NotPossible = Some (leaving response.StepFailed failed)
step_due d failed Late = Some (leaving response.StepFailed failed)

-- the weight test at its end: gross − empty − value is the deviation
abbrev pub tested : ℤ → Due
tested dev = record { response = response.Done 440; state = Ready; deviation = Some dev }

abbrev pub due_of : State → Told → ℤ → Option Due
due_of Ready t g = None
due_of (Working w) t g = order_due w t
due_of FirstStep t g = step_due (leaving response.StepDone (Between g)) FirstFailed t
due_of FirstFailed t g = None
due_of (Between e) t g = None
due_of (SecondStep e v) t g = step_due (tested (g -ℤ e -ℤ v)) (SecondFailed e) t
due_of (SecondFailed e) t g = None
due_of (Cancelling w) t g = Some (closing response.Aborted)
