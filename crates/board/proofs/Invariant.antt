-- What holds between calls: the order below belongs to the open command, the response says what the command waits for, and the book agrees.
use Rattle.std.proofs.Common.{◌≡◌, ℕ, suc, ◌<◌, ◌≤◌, ◌⊎◌, ◌++◌, ℤ, Some, None, Option}
use Rattle.std.specs.Option.{option_to_list}
use Rattle.weigher.specs.declared.orders.Order.{Order}
use Rattle.weigher.specs.declared.orders.Order.TheVariants.{TareWhenStill, ZeroWhenStill, TareNow, ZeroNow, ClearTare, PresetTare, Settle}
use Rattle.weigher.specs.declared.orders.Standing.{Standing}
use Rattle.weigher.specs.Scale.{Scale}
use Rattle.board.specs.declared.block.Block.{Block}
use Rattle.board.specs.declared.block.State.{State}
use Rattle.board.specs.declared.block.State.TheVariants.{Ready, Working, FirstStep, FirstFailed, Between, SecondStep, SecondFailed, Cancelling}
use Rattle.board.specs.declared.inner.Inner.{Inner}
use Rattle.board.specs.declared.note.Note.{Note}
use Rattle.board.specs.declared.setting.Settings.{Settings}
use Rattle.board.specs.Book.{Book, noted}
use Rattle.board.specs.Registers.{open_word}

-- the word of the command that begins an order, with the value that the command came with
abbrev pub WordFor : Order → ℕ → ℤ → Type 0
WordFor TareWhenStill w v = w ≡ 400
WordFor ZeroWhenStill w v = w ≡ 401
WordFor TareNow w v = w ≡ 403
WordFor ZeroNow w v = w ≡ 404
WordFor ClearTare w v = w ≡ 402
WordFor (PresetTare x) w v = (w ≡ 201) × (x ≡ v)
WordFor Settle w v = ⊥

abbrev pub IsSettle : Order → Type 0
IsSettle TareWhenStill = ⊥
IsSettle ZeroWhenStill = ⊥
IsSettle TareNow = ⊥
IsSettle ZeroNow = ⊥
IsSettle ClearTare = ⊥
IsSettle (PresetTare x) = ⊥
IsSettle Settle = Unit {0}

abbrev pub NoOrder : Option Standing → Type 0
NoOrder None = Unit {0}
NoOrder (Some o) = ⊥

-- an order of this kind stands, with 1 to p tends left
abbrev pub Stands : ℕ → (Order → Type 0) → Option Standing → Type 0
Stands p P None = ⊥
Stands p P (Some o) = P o.order × (1 ≤ o.left) × (o.left ≤ p)

-- the state of the command, the response that shows, the order below, and the empty weight and value of the book
abbrev pub Tied : ℕ → State → ℕ → Option Standing → ℤ → ℤ → Type 0
Tied p Ready r o e v = NoOrder o × (r ≡ 2047 → ⊥)
Tied p (Working w) r o e v = Stands p (λ x. WordFor x w v) o × (r ≡ 2047)
Tied p FirstStep r o e v = Stands p IsSettle o × (r ≡ 2047)
Tied p FirstFailed r o e v = NoOrder o × (r ≡ 0x8020)
Tied p (Between x) r o e v = NoOrder o × (r ≡ 2045) × (x ≡ e)
Tied p (SecondStep x y) r o e v = Stands p IsSettle o × (r ≡ 2047) × (x ≡ e) × (y ≡ v)
Tied p (SecondFailed x) r o e v = NoOrder o × (r ≡ 0x8020) × (x ≡ e)
Tied p (Cancelling w) r o e v = NoOrder o × (r ≡ 2004) × (w < 2048)

pub record Inv (p : ℕ) (t : Settings) (i : Settings) (k : Block) (d : ℤ) (s : Scale) (b : Book) : Type 0 where
  pub tied : Tied p k.state k.response s.standing b.empty b.value
  pub zero : s.zero ≡ b.zero
  pub tare : s.tare ≡ b.tare
  pub deviation : d ≡ b.deviation
  pub shown : k.response ≡ b.shown
  pub fits : k.response < 65536
  pub settings : i ≡ t

-- the command posts within k answered scans
abbrev pub LeftIn : ℕ → Option Standing → Type 0
LeftIn k None = ⊥
LeftIn k (Some o) = o.left ≤ k

abbrev pub Within : ℕ → State → Option Standing → Type 0
Within k Ready o = ⊥
Within k (Working w) o = LeftIn k o
Within k FirstStep o = LeftIn k o
Within k FirstFailed o = ⊥
Within k (Between e) o = ⊥
Within k (SecondStep e v) o = LeftIn k o
Within k (SecondFailed e) o = ⊥
Within k (Cancelling w) o = 1 ≤ k

abbrev pub SomePosted : Option ℕ → Type 0
SomePosted None = ⊥
SomePosted (Some r) = Unit {0}

-- what one answered scan keeps: it was made in state st with the order o below, and left r
pub record Kept (p : ℕ) (t : Settings) (value : Option ℤ) (b : Book) (st : State) (o : Option Standing) (r : Inner × Note × Scale) : Type 0 where
  pub inv : Inv p t r.0.settings r.0.block r.0.deviation r.2 (noted r.0.block.response value r.1 r.2.load b)
  pub account : option_to_list (open_word st) ++ option_to_list r.1.taken ≡ option_to_list r.1.closed ++ option_to_list (open_word r.0.block.state)
  pub progress : (k : ℕ) → Within (suc k) st o → SomePosted r.1.posted ⊎ (Within k r.0.block.state r.2.standing × (open_word r.0.block.state ≡ open_word st))
