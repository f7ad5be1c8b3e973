-- The word of each thing that a tend tells and of what the sensor says, and the number and the reason of each decline.
use Rattle.std.specs.Prelude.{ℕ, Bool, cond, List, Some, None, Ok, Err, codes, Option, Result}
use Rattle.weigher.specs.declared.answers.Told.{Told}
use Rattle.weigher.specs.declared.answers.Told.TheVariants.{Idle, Waiting, Done, NotPossible, Late}
use Rattle.weigher.specs.declared.answers.Sensed.{Sensed}
use Rattle.weigher.specs.declared.answers.Sensed.TheVariants.{Still, Moving, Fault}
use Rattle.weigher.specs.declared.answers.Declined.{Declined}
use Rattle.weigher.specs.declared.answers.Declined.TheVariants.{OrderStands, OrderNotKnown, PresetOutside, NoOrderStands, BadRamp, BadCapacity, BadTolerance}

abbrev pub word_of : Told → List ℕ
word_of Idle = codes "idle"
word_of Waiting = codes "waiting"
word_of Done = codes "done"
word_of NotPossible = codes "not possible"
word_of Late = codes "late"

-- what the sensor says of the load: a fault counts before stillness
abbrev pub sensed_of : Bool → Bool → Sensed
sensed_of fault still = cond fault Fault (cond still Still Moving)

abbrev pub sensed_word : Sensed → List ℕ
sensed_word Still = codes "still"
sensed_word Moving = codes "moving"
sensed_word Fault = codes "fault"

abbrev pub number_of : Declined → ℕ
number_of OrderStands = 21
number_of OrderNotKnown = 22
number_of PresetOutside = 23
number_of NoOrderStands = 24
number_of BadRamp = 44
number_of BadCapacity = 45
number_of BadTolerance = 46

-- what a decline says, in words
abbrev pub reason_of : Declined → List ℕ
reason_of OrderStands = codes "an order stands"
reason_of OrderNotKnown = codes "the order is not known"
reason_of PresetOutside = codes "the preset is not 0 to the capacity"
reason_of NoOrderStands = codes "no order stands"
reason_of BadRamp = codes "the ramp is out of range"
reason_of BadCapacity = codes "the capacity is not 1 to 4000000"
reason_of BadTolerance = codes "the tolerance is not 0 to 1000"

-- what a call that may be declined answered: the decline's number, or none
abbrev pub decline_of : {A : Type 0} → Result A Declined → Option ℕ
decline_of (Ok a) = None
decline_of (Err e) = Some (number_of e)
