-- Only one listing fits a file.
use Rattle.std.proofs.Common.{◌≡◌, ℕ, cond, T, eqb, List, ◌++◌, map, take, drop, ℤ, Some, None, Option, Result, sym, refl, ap, ◌∙◌, subst, ap₂}
use lib.Dec.{T_prop}
use Rattle.wire.specs.declared.increment.Increment.{Increment}
use Rattle.wire.specs.declared.order.Order.{Order}
use Rattle.wire.specs.declared.order.Order.TheVariants.{Plain, BytesSwapped, WordsSwapped, BothSwapped}
use Rattle.wire.specs.Increments.{listed}
use Rattle.weigher.specs.declared.ramp.RampSensor.{RampSensor}
use Rattle.weigher.specs.Fresh.{fresh}
use Rattle.weigher.specs.Ramps.{Ramp, ramp_kind}
use Rattle.weigher.specs.Singles.{single_scale}
use Rattle.weigher.specs.Rules.{dropped}
use Rattle.weigher.specs.Scale.{Scale}
use Rattle.board.specs.declared.inner.Inner.{Inner}
use Rattle.board.specs.declared.look.Look.{Look}
use Rattle.board.specs.declared.setting.Settings.{Settings}
use Rattle.board.specs.Boards.{new_inner}
use Rattle.board.specs.Settings.{number_of as order_number}
use Rattle.board.specs.declared.journal.Call.{Call}
use Rattle.board.specs.declared.journal.Entry.{Entry}
use Rattle.drivefile.specs.declared.fault.Fault.{Fault}
use Rattle.drivefile.specs.Heads.{start_in, step_in, target_in}
use Rattle.drivefile.specs.Lines.{entry_lines}
use Rattle.drivefile.specs.Listings.{head_fault, Headed, DrivenRun, Tells, TextBy, listing_text, Listed}
use Rattle.drivefile.proofs.Asked.{Asked, asked, reads_alike}
use Rattle.drivefile.proofs.Answering.{Ramped, ramped, Moment, lines_of, lines_are}

-- settings with the same order and grams are the same
same_known : (g h : ℕ) → g ≡ h → (p : T (listed g)) (q : T (listed h)) → ◌≡◌ {A = Increment} (record { grams = g; known = p }) (record { grams = h; known = q })
same_known g h e p = subst (λ (x : ℕ). (q : T (listed x)) → ◌≡◌ {A = Increment} (record { grams = g; known = p }) (record { grams = x; known = q })) e (λ q. ap (λ (z : T (listed g)). record { grams = g; known = z }) (T_prop (listed g) p q))

same_settings : (s t : Settings) → s.order ≡ t.order → s.increment.grams ≡ t.increment.grams → s ≡ t
same_settings s t orders grams =
    ap₂ (λ (o : Order) (d : Increment). record { order = o; increment = d }) orders (same_known s.increment.grams t.increment.grams grams s.increment.known t.increment.known)

-- orders with the same number are the same
order_of : ℕ → Order
order_of n = cond (eqb n 0) Plain (cond (eqb n 1) BytesSwapped (cond (eqb n 2) WordsSwapped BothSwapped))

order_is : (o : Order) → o ≡ order_of (order_number o)
unfolding order_of
order_is Plain = refl
order_is BytesSwapped = refl
order_is WordsSwapped = refl
order_is BothSwapped = refl

same_head : {file : List ℕ} {s t : Settings} {v w : Ramp} → Headed file s v → Headed file t w → s ≡ t
same_head {file} {s} {t} h k =
    same_settings s t (order_is s.order ∙ ap order_of (h.order ∙ sym k.order) ∙ sym (order_is t.order)) (h.increment ∙ sym k.increment)

-- the ramp of a file as a run on a new board begins with it
abbrev ramp_in : List ℕ → Ramped
ramp_in body = record { scale = fresh (start_in body) 15000; step = step_in body; target = target_in body }

begins : {file : List ℕ} {s : Settings} {w : Ramp} (first : Ramp) → Headed file s w → single_scale first ≡ (dropped (single_scale w)).1 → ramp_kind.keeps w first → ramped first ≡ ramp_in (take 12 (drop 5 file))
begins {file} {s} {w} first h fresh kept =
    let scale : single_scale first ≡ (ramp_in (take 12 (drop 5 file))).scale = fresh ∙ ap (λ (x : Scale). (dropped x).1) h.scale in
    let step : first.sensor.step ≡ (ramp_in (take 12 (drop 5 file))).step = ap (λ (x : RampSensor). x.step) kept ∙ h.step in
    let target : first.sensor.target.grams ≡ (ramp_in (take 12 (drop 5 file))).target = ap (λ (x : RampSensor). x.target.grams) kept ∙ h.target in
    ap (λ (x : Scale). record { scale = x; step = first.sensor.step; target = first.sensor.target.grams }) scale
    ∙ ap₂ (λ (x y : ℤ). record { scale = (ramp_in (take 12 (drop 5 file))).scale; step = x; target = y }) step target

-- the moment at which a run on a new board begins
abbrev begin : List ℕ → Settings → Moment
begin file s = record { inner = new_inner s; ramp = ramp_in (take 12 (drop 5 file)) }

-- the lines of a run follow from its settings, the file and what is asked
lined : {file : List ℕ} {s : Settings} {calls : List Call} {start : Look} {journal : List Entry} {tail : Result (Unit {0}) Fault} → DrivenRun file s calls start journal tail → entry_lines journal ≡ lines_of (map asked calls) (begin file s)
lined {file} {s} {calls} d =
    let r = d.promise.rules in
    lines_are r.played
    ∙ ap₂ (λ (i : Inner) (w : Ramped). lines_of (map asked calls) (record { inner = i; ramp = w })) r.new (begins r.first.weigher d.head r.fresh r.kept)

only_told : (file a b : List ℕ) → Tells listing_text file a → Tells listing_text file b → a ≡ b
only_told file a b x y =
    let d = x.driven in
    let e = y.driven in
    let same = reads_alike file 17 x.calls y.calls d.place e.place x.tail y.tail d.reads e.reads d.ends e.ends in
    let lines : entry_lines x.journal ≡ entry_lines y.journal = lined d ∙ ap₂ (λ (l : List Asked) (s : Settings). lines_of l (begin file s)) same.0 (same_head d.head e.head) ∙ sym (lined e) in
    x.told ∙ ap₂ (λ (l m : List ℕ). l ++ m) lines same.1 ∙ sym y.told

only_by : (file a b : List ℕ) (at : Option (ℕ × ℕ)) → TextBy listing_text file a at → TextBy listing_text file b at → a ≡ b
only_by file a b (Some f) p q = p ∙ sym q
only_by file a b None p q = only_told file a b p q

pub only : (file a b : List ℕ) → Listed file a → Listed file b → a ≡ b
only file a b p q = only_by file a b (head_fault file) p q
