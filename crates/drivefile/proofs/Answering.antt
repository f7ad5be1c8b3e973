-- What a board on a ramp answers to what is asked, as a function: the rules leave no choice of it.
use Rattle.std.proofs.Common.{◌≡◌, ℕ, Bool, true, false, ◌&&◌, List, [], ◌∷◌, ◌++◌, map, length, ℤ, Some, None, Option, sym, refl, ap, ◌∙◌, ap₂, arith}
use lib.Signed.{le_z}
use Rattle.std.proofs.lemmas.Int.{ints}
use Rattle.weigher.specs.declared.answers.Told.{Told}
use Rattle.weigher.specs.declared.ramp.RampSensor.{RampSensor}
use Rattle.weigher.specs.Ramp.{towards}
use Rattle.weigher.specs.Ramps.{Ramp, ramp_kind}
use Rattle.weigher.specs.Singles.{single_scale}
use Rattle.weigher.specs.Rules.{worked, sensed, reads}
use Rattle.weigher.specs.Scale.{Scale}
use Rattle.board.specs.declared.address.Address.{Address}
use Rattle.board.specs.declared.board.Board.{Board}
use Rattle.board.specs.declared.inner.Inner.{Inner}
use Rattle.board.specs.declared.note.Note.{Note}
use Rattle.board.specs.declared.report.Report.{Report}
use Rattle.board.specs.Boards.{attribute_report, reply_of}
use Rattle.board.specs.Declines.{number_of, scan_decline, read_decline}
use Rattle.board.specs.Images.{image_of}
use Rattle.board.specs.Scans.{answered}
use Rattle.board.specs.Scans as scans
use Rattle.board.specs.declared.journal.Answer.{Answer}
use Rattle.board.specs.declared.journal.Answer.TheVariants.{Scanned, Replied, Looked, Declined}
use Rattle.board.specs.declared.journal.Call.{Call}
use Rattle.board.specs.declared.journal.Call.TheVariants.{Scan, Read, Look}
use Rattle.board.specs.declared.journal.Entry.{Entry}
use Rattle.board.specs.Journals.{Step, Played, done, next}
use Rattle.drivefile.specs.Lines.{scan_line, read_line, decline_line, answer_line, entry_lines}
use Rattle.drivefile.proofs.Asked.{Asked, to_scan, to_read, to_look, asked}

-- whether a load was left alone
abbrev alone : ℤ → ℤ → Bool
alone a b = le_z a b && le_z b a

alone_same : (a b : ℤ) → alone a b ≡ true → a ≡ b
alone_same a b h = grind (arith, ints)

same_alone : (a b : ℤ) → a ≡ b → alone a b ≡ true
same_alone a b h = grind (arith, ints)

-- two tests that are true of the same are the same
same_test : (x y : Bool) → (x ≡ true → y ≡ true) → (y ≡ true → x ≡ true) → x ≡ y
same_test x y f g = grind (arith)

-- what the answers of a board depend on in a ramp
pub record Ramped : Type 0 where
  pub scale : Scale
  pub step : ℤ
  pub target : ℤ

abbrev pub ramped : Ramp → Ramped
ramped w = record { scale = single_scale w; step = w.sensor.step; target = w.sensor.target.grams }

-- its scale with what its sensor reads next
senses : Ramped → Scale
senses r =
    let next : ℤ = towards r.step r.target r.scale.load in
    reads next (alone next r.scale.load) false r.scale

senses_is : (w t : Ramp) → ramp_kind.moves w t → sensed (single_scale w) (single_scale t) ≡ senses (ramped w)
unfolding senses
senses_is w t moved =
    let m = moved.1 in
    let s : Scale = single_scale w in
    let l : ℤ = (single_scale t).load in
    let still : (single_scale t).still ≡ alone l s.load = same_test (single_scale t).still (alone l s.load) (λ h. same_alone l s.load (m.alone_if_still h)) (λ h. m.still_if_alone (alone_same l s.load h)) in
    ap₂ (λ (b f : Bool). reads l b f s) still m.no_fault ∙ ap (λ (x : ℤ). reads x (alone x s.load) false s) m.load

-- what the answers of a board on a ramp depend on
pub record Moment : Type 0 where
  pub inner : Inner
  pub ramp : Ramped

abbrev pub moment : Board Ramp → Moment
moment b = record { inner = b.inner; ramp = ramped b.weigher }

-- the line of a call, and what it leaves
abbrev Outcome : Type 0
Outcome = List ℕ × Moment

abbrev leaves : Ramped → Inner × Note × Scale → Outcome
leaves r a = (scan_line (image_of a.0 a.2) a.1, record { inner = a.0; ramp = record { scale = a.2; step = r.step; target = r.target } })

on_scan : List ℕ → Moment → Option ℕ → Outcome
on_scan write m None = leaves m.ramp (answered 50 m.inner (worked (senses m.ramp)).0 (worked (senses m.ramp)).1 write)
on_scan write m (Some n) = (decline_line n, m)

replied : Moment → Option Report → List ℕ
replied m None = []
replied m (Some r) = read_line (reply_of m.inner m.ramp.scale r)

on_read : Address → Moment → Option ℕ → Outcome
on_read address m None = (replied m (attribute_report address.attribute), m)
on_read address m (Some n) = (decline_line n, m)

answers : Asked → Moment → Outcome
answers (to_scan write n) m = on_scan write m (scan_decline (length write) n)
answers (to_read address n) m = on_read address m (read_decline address n)
answers to_look m = ([], m)

scan_is : (b : Board Ramp) (write : List ℕ) (b' : Board Ramp) (n : Note) → scans.Scanned ramp_kind b write b' n → ◌≡◌ {A = Outcome} (scan_line (image_of b'.inner (single_scale b'.weigher)) n, moment b') (on_scan write (moment b) None)
unfolding on_scan
scan_is b write b' n h =
    let tend : (h.told, single_scale h.tended) ≡ worked (senses (ramped b.weigher)) = h.work ∙ ap worked (senses_is b.weigher h.tended h.moved) in
    let sensor : b'.weigher.sensor ≡ b.weigher.sensor = h.kept ∙ h.moved.0 in
    ap (λ (x : RampSensor). (scan_line (image_of b'.inner (single_scale b'.weigher)) n, record { inner = b'.inner; ramp = record { scale = single_scale b'.weigher; step = x.step; target = x.target.grams } })) sensor
    ∙ ap (leaves (ramped b.weigher)) (h.rules ∙ ap (λ (x : Told × Scale). answered 50 b.inner x.0 x.1 write) tend)

-- a call that leaves the board as it was
stays : (line : List ℕ) (b b' : Board Ramp) → b' ≡ b → ◌≡◌ {A = Outcome} (line, moment b') (line, moment b)
stays line b b' h = ap (λ (x : Board Ramp). (line, moment x)) h

step_is : (call : Call) (a : Answer) (b b' : Board Ramp) → Step ramp_kind call a b b' → ◌≡◌ {A = Outcome} (answer_line a, moment b') (answers (asked call) (moment b))
unfolding answers on_scan on_read replied
step_is (Scan write n) (Scanned image strip note load) b b' h =
    ap (λ (x : List ℕ). (scan_line x note, moment b')) h.3
    ∙ scan_is b image b' note h.2
    ∙ ap₂ (λ (x : List ℕ) (o : Option ℕ). on_scan x (moment b) o) h.1 (sym h.0)
step_is (Scan write n) (Replied strip) b b' h = absurd h
step_is (Scan write n) (Looked l) b b' h = absurd h
step_is (Scan write n) (Declined d) b b' h = stays (decline_line (number_of d)) b b' h.1 ∙ ap (on_scan write.now (moment b)) (sym h.0)
step_is (Read address n) (Scanned image strip note load) b b' h = absurd h
step_is (Read address n) (Replied strip) b b' h =
    stays (read_line strip) b b' h.2
    ∙ ap (λ (x : List ℕ). (read_line x, moment b)) h.1.2
    ∙ ap (λ (r : Option Report). (replied (moment b) r, moment b)) (sym h.1.1)
    ∙ ap (on_read address (moment b)) (sym h.0)
step_is (Read address n) (Looked l) b b' h = absurd h
step_is (Read address n) (Declined d) b b' h = stays (decline_line (number_of d)) b b' h.1 ∙ ap (on_read address (moment b)) (sym h.0)
step_is Look (Scanned image strip note load) b b' h = absurd h
step_is Look (Replied strip) b b' h = absurd h
step_is Look (Looked l) b b' h = stays [] b b' h.1
step_is Look (Declined d) b b' h = absurd h

-- the lines of all that is asked
pub lines_of : List Asked → Moment → List ℕ
lines_of [] m = []
lines_of (a ∷ later) m = (answers a m).0 ++ lines_of later (answers a m).1

pub lines_are : {b : Board Ramp} {calls : List Call} {es : List Entry} {b' : Board Ramp} → Played ramp_kind b calls es b' → entry_lines es ≡ lines_of (map asked calls) (moment b)
unfolding lines_of
lines_are (done b) = refl
lines_are (next call calls e es b b₁ b₂ step after rest) =
    ap (λ (x : List ℕ). answer_line e.answer ++ x) (lines_are rest)
    ∙ ap (λ (o : Outcome). o.0 ++ lines_of (map asked calls) o.1) (step_is call e.answer b b₁ step)
