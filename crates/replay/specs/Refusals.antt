-- Why an input is refused: its first bad line, and what is wrong with that line.
use Rattle.std.specs.Prelude.{◌≡◌, ℕ, ◌+◌, List, [], ◌∷◌, ◌++◌, length, ℤ, codes, ◌≢◌, All}
use Rattle.std.specs.Str.Lines.{lines}
use Rattle.weigher.specs.declared.orders.Order.{Order}
use Rattle.replay.specs.declared.failure.Flaw.{Flaw}
use Rattle.replay.specs.declared.failure.Flaw.TheVariants.{MissingLine, NoSettings, NoOrder, NoNumber, Declined}
use Rattle.replay.specs.declared.failure.Failure.{Failure}
use Rattle.replay.specs.declared.failure.Failure.TheVariants.{Input, Memory, Streams}
use Rattle.replay.specs.Inputs.{Settings}
use Rattle.replay.specs.Words.{IsNumber, Says}

-- the line holds no capacity and tolerance
abbrev pub LacksSettings : List ℕ → Type 0
LacksSettings line = (capacity tolerance : ℤ) → Settings line capacity tolerance → ⊥

-- what is wrong with a line that names no order: it is a preset with no number, or else no order at all
abbrev pub LacksOrder : List ℕ → Flaw → Type 0
LacksOrder line MissingLine = ⊥
LacksOrder line NoSettings = ⊥
LacksOrder line NoOrder = ((o : Order) → Says line o → ⊥) × ((t : List ℕ) → line ≢ codes "preset-tare " ++ t)
LacksOrder line NoNumber = (t : List ℕ) × (line ≡ codes "preset-tare " ++ t) × (IsNumber t → ⊥)
LacksOrder line (Declined d) = ⊥

-- where settings should stand there is no line, or one that lacks them
abbrev pub BadSettings : List (List ℕ) → Flaw → Type 0
BadSettings [] flaw = flaw ≡ MissingLine
BadSettings (line ∷ after) flaw = (flaw ≡ NoSettings) × LacksSettings line

-- where an order should stand there is no line, or one that lacks it
abbrev pub BadOrder : List (List ℕ) → Flaw → Type 0
BadOrder [] flaw = flaw ≡ MissingLine
BadOrder (line ∷ after) flaw = LacksOrder line flaw

-- of the lines from line 3 on, line n is the first that is no number
pub record BadSample (given : List (List ℕ)) (n : ℕ) (flaw : Flaw) : Type 0 where
  pub numbers : List (List ℕ)
  pub line : List ℕ
  pub after : List (List ℕ)
  pub parted : given ≡ numbers ++ (line ∷ after)
  pub before : All IsNumber numbers
  pub at : n ≡ length numbers + 3
  pub no_number : IsNumber line → ⊥
  pub is_flaw : flaw ≡ NoNumber

-- line n, counted from 1, is the first bad line of an input, and this is its flaw; the lines after it do not count
pub data Refused (input : List ℕ) (n : ℕ) (flaw : Flaw) : Type 0 where
  at_settings : n ≡ 1 → BadSettings (lines input) flaw → Refused input n flaw
  at_order : (first : List ℕ) (after : List (List ℕ)) (capacity tolerance : ℤ) → lines input ≡ first ∷ after → Settings first capacity tolerance → n ≡ 2 → BadOrder after flaw → Refused input n flaw
  at_sample : (first second : List ℕ) (after : List (List ℕ)) (capacity tolerance : ℤ) (o : Order) → lines input ≡ first ∷ (second ∷ after) → Settings first capacity tolerance → Says second o → BadSample after n flaw → Refused input n flaw

-- why an input is not read: it is refused, or there was no memory
abbrev pub Unread : List ℕ → Failure → Type 0
Unread input (Input n flaw) = Refused input n flaw
Unread input Memory = Unit {0}
Unread input Streams = ⊥
