-- One answered scan from any board, weigher and book that the invariant ties.
use Rattle.std.proofs.Common.{◌≡◌, ℕ, ◌<◌, ◌≤◌, Bool, ℤ, Some, None, Option, sym, subst}
use Rattle.weigher.specs.declared.orders.Order.{Order}
use Rattle.weigher.specs.declared.orders.Order.TheVariants.{TareWhenStill, ZeroWhenStill, TareNow, ZeroNow, ClearTare, PresetTare, Settle}
use Rattle.weigher.specs.declared.orders.Standing.{Standing}
use Rattle.weigher.specs.Scale.{Scale}
use Rattle.weigher.specs.Rules.{worked}
use Rattle.board.specs.declared.block.State.{State}
use Rattle.board.specs.declared.block.State.TheVariants.{Ready, Working, FirstStep, FirstFailed, Between, SecondStep, SecondFailed, Cancelling}
use Rattle.board.specs.declared.block.steps.Judged.{Judged}
use Rattle.board.specs.declared.inner.Inner.{Inner}
use Rattle.board.specs.declared.report.Report.{Report}
use Rattle.board.specs.declared.setting.Settings.{Settings}
use Rattle.board.specs.Book.{Book}
use Rattle.board.specs.Scans.{responded}
use Rattle.board.proofs.Invariant.{IsSettle, Tied, Inv, Kept}
use Rattle.board.proofs.Turns.{ListedIn, ready, working, first, first_failed, between, second, second_failed, cancelling}

module _ (p : ℕ) (patient : 1 ≤ p) (t : Settings) (hb : Bool) (c q : ℕ) (rep : Report)
    (load : ℤ) (still fault : Bool) (cap : ℕ) (knows : Order → Bool) (j : Judged) (listed : ListedIn j.word j.class) where
  -- the scan of the board with these registers on the scale with these weights
  abbrev Turned : Settings → ℕ → State → ℤ → ℤ → ℤ → Option Standing → Book → Type 0
  Turned s r st dev zero tare o b =
      let i : Inner = record { settings = s; block = record { compared = c; report = rep; response = r; sequence = q; state = st }; deviation = dev; heartbeat = hb } in
      let x : Scale = record { load = load; zero = zero; tare = tare; still = still; fault = fault; standing = o; capacity = cap; knows = knows } in
      Kept p t j.value b st o (responded p i (worked x).0 (worked x).1 j)

  -- the board and the scale are written with the book's numbers
  abbrev Agreed : ℕ → State → Option Standing → ℤ → ℤ → ℤ → ℤ → ℤ → Type 0
  Agreed r st o z tr d e v = Turned t r st d z tr o (record { zero = z; tare = tr; deviation = d; empty = e; value = v; shown = r })

  module _ (z tr d e v : ℤ) where
    first_order : (o : Order) (m : ℕ) → IsSettle o → 1 ≤ m → m ≤ p → Agreed 2047 FirstStep (Some (record { order = o; left = m })) z tr d e v
    first_order TareWhenStill m is low high = absurd is
    first_order ZeroWhenStill m is low high = absurd is
    first_order TareNow m is low high = absurd is
    first_order ZeroNow m is low high = absurd is
    first_order ClearTare m is low high = absurd is
    first_order (PresetTare x) m is low high = absurd is
    first_order Settle m is low high = first p patient t hb c q rep z tr d e v load still fault cap knows j.word j.flawed j.value m j.class low high

    second_order : (o : Order) (m : ℕ) → IsSettle o → 1 ≤ m → m ≤ p → Agreed 2047 (SecondStep e v) (Some (record { order = o; left = m })) z tr d e v
    second_order TareWhenStill m is low high = absurd is
    second_order ZeroWhenStill m is low high = absurd is
    second_order TareNow m is low high = absurd is
    second_order ZeroNow m is low high = absurd is
    second_order ClearTare m is low high = absurd is
    second_order (PresetTare x) m is low high = absurd is
    second_order Settle m is low high = second p patient t hb c q rep z tr d e v load still fault cap knows j.word j.flawed j.value m j.class low high

    agreed : (r : ℕ) (st : State) (o : Option Standing) → Tied p st r o e v → r < 65536 → Agreed r st o z tr d e v
    agreed r Ready None (h, n47) fits = ready p patient t hb c q rep z tr d e v load still fault cap knows j.word j.flawed j.value r n47 fits j.class listed
    agreed r Ready (Some o) (h, n47) fits = absurd h
    agreed r (Working w) None (h, is) fits = absurd h
    agreed r (Working w) (Some o) (h, is) fits =
        subst (λ (x : ℕ). Agreed x (Working w) (Some o) z tr d e v) (sym is)
        (working p patient t hb c q rep z tr d e v load still fault cap knows j.word j.flawed j.value o.left j.class w o.order h.0 h.1 h.2)
    agreed r FirstStep None (h, is) fits = absurd h
    agreed r FirstStep (Some o) (h, is) fits = subst (λ (x : ℕ). Agreed x FirstStep (Some o) z tr d e v) (sym is) (first_order o.order o.left h.0 h.1 h.2)
    agreed r FirstFailed None (h, is) fits =
        subst (λ (x : ℕ). Agreed x FirstFailed None z tr d e v) (sym is)
        (first_failed p patient t hb c q rep z tr d e v load still fault cap knows j.word j.flawed j.value j.class)
    agreed r FirstFailed (Some o) (h, is) fits = absurd h
    agreed r (Between x) None (h, is, same) fits =
        subst (λ (y : ℕ). Agreed y (Between x) None z tr d e v) (sym is)
        (subst (λ (y : ℤ). Agreed 2045 (Between y) None z tr d e v) (sym same)
        (between p patient t hb c q rep z tr d e v load still fault cap knows j.word j.flawed j.value j.class))
    agreed r (Between x) (Some o) (h, is, same) fits = absurd h
    agreed r (SecondStep x y) None (h, is, same, alike) fits = absurd h
    agreed r (SecondStep x y) (Some o) (h, is, same, alike) fits =
        subst (λ (n : ℕ). Agreed n (SecondStep x y) (Some o) z tr d e v) (sym is)
        (subst (λ (n : ℤ). Agreed 2047 (SecondStep n y) (Some o) z tr d e v) (sym same)
        (subst (λ (n : ℤ). Agreed 2047 (SecondStep e n) (Some o) z tr d e v) (sym alike) (second_order o.order o.left h.0 h.1 h.2)))
    agreed r (SecondFailed x) None (h, is, same) fits =
        subst (λ (y : ℕ). Agreed y (SecondFailed x) None z tr d e v) (sym is)
        (subst (λ (y : ℤ). Agreed 0x8020 (SecondFailed y) None z tr d e v) (sym same)
        (second_failed p patient t hb c q rep z tr d e v load still fault cap knows j.word j.flawed j.value j.class))
    agreed r (SecondFailed x) (Some o) (h, is, same) fits = absurd h
    agreed r (Cancelling w) None (h, is, small) fits =
        subst (λ (x : ℕ). Agreed x (Cancelling w) None z tr d e v) (sym is)
        (cancelling p patient t hb c q rep z tr d e v load still fault cap knows j.word j.flawed j.value w j.class small)
    agreed r (Cancelling w) (Some o) (h, is, small) fits = absurd h

  turned : (s : Settings) (r : ℕ) (st : State) (dev zero tare : ℤ) (o : Option Standing) (b : Book) → Tied p st r o b.empty b.value → zero ≡ b.zero → tare ≡ b.tare → dev ≡ b.deviation → r ≡ b.shown → r < 65536 → s ≡ t → Turned s r st dev zero tare o b
  turned s r st dev zero tare o b tied ez et ed er fits es =
      let T : ℕ → Type 0 = λ y. Tied p st y o b.empty b.value in
      let one : Turned t b.shown st b.deviation b.zero b.tare o b = agreed b.zero b.tare b.deviation b.empty b.value b.shown st o (subst T er tied) (subst (λ (y : ℕ). y < 65536) er fits) in
      let two : Turned t r st b.deviation b.zero b.tare o b = subst (λ (y : ℕ). Turned t y st b.deviation b.zero b.tare o b) (sym er) one in
      let three : Turned t r st dev b.zero b.tare o b = subst (λ (y : ℤ). Turned t r st y b.zero b.tare o b) (sym ed) two in
      let four : Turned t r st dev zero b.tare o b = subst (λ (y : ℤ). Turned t r st dev y b.tare o b) (sym ez) three in
      let five : Turned t r st dev zero tare o b = subst (λ (y : ℤ). Turned t r st dev zero y o b) (sym et) four in
      subst (λ (y : Settings). Turned y r st dev zero tare o b) (sym es) five

-- a scan that finds the scale x after sensing, whose order it then works on
pub scan_keeps : (p : ℕ) → 1 ≤ p → (t : Settings) (i : Inner) (x : Scale) (b : Book) (j : Judged) → ListedIn j.word j.class → Inv p t i.settings i.block i.deviation x b → Kept p t j.value b i.block.state x.standing (responded p i (worked x).0 (worked x).1 j)
scan_keeps p patient t i x b j listed inv =
    turned p patient t i.heartbeat i.block.compared i.block.sequence i.block.report x.load x.still x.fault x.capacity x.knows j listed i.settings i.block.response i.block.state i.deviation x.zero x.tare x.standing b inv.tied inv.zero inv.tare inv.deviation inv.shown inv.fits inv.settings
