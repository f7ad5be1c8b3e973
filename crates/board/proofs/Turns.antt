-- One answered scan, state by state: it keeps the invariant, adds to the account, and comes nearer to a response.
-- The lemmas speak of a board and a book that agree by being written with the same numbers.
use Rattle.std.proofs.Common.{◌≡◌, ℕ, suc, ◌-◌, ◌*◌, ◌<◌, ◌≤◌, Bool, cond, not, ◌&&◌, eqb, leb, [], ◌∷◌, ◌++◌, ℤ, pos, ◌-ℤ◌, nat_abs, Some, None, Option, unwrap_or, sym, refl, ap, ◌∙◌, subst, inl, inr, arith}
use lib.Signed.{le_z}
use Rattle.std.specs.Option.{option_to_list}
use Rattle.std.proofs.lemmas.Bool.{cond_both, eqb-true, eqb-false, ne_eqb}
use Rattle.weigher.specs.declared.answers.Told.{Told}
use Rattle.weigher.specs.declared.answers.Told.TheVariants.{Idle, Waiting, Done, NotPossible, Late}
use Rattle.weigher.specs.declared.orders.Order.{Order}
use Rattle.weigher.specs.declared.orders.Order.TheVariants.{TareWhenStill, ZeroWhenStill, TareNow, ZeroNow, ClearTare, PresetTare, Settle}
use Rattle.weigher.specs.declared.orders.Standing.{Standing}
use Rattle.weigher.specs.Scale.{Scale}
use Rattle.weigher.specs.Rules.{worked, carried, tared, zeroed, ready as isReady, ended, begun, preset_fits}
use Rattle.board.specs.declared.block.Block.{Block}
use Rattle.board.specs.declared.block.State.{State}
use Rattle.board.specs.declared.block.State.TheVariants.{Ready, Working, FirstStep, FirstFailed, Between, SecondStep, SecondFailed, Cancelling}
use Rattle.board.specs.declared.block.steps.Judged.{Judged}
use Rattle.board.specs.declared.block.steps.Verdict.{Verdict}
use Rattle.board.specs.declared.block.steps.Verdict.TheVariants.{Ignored, Closed, Opened, Started, Failed, Cancelled}
use Rattle.board.specs.declared.command.Class.{Class}
use Rattle.board.specs.declared.command.Class.TheVariants.{Report as ReportClass, NoOperation, PresetTare as PresetClass, Order as OrderClass, WeightTest, Step}
use Rattle.board.specs.declared.command.StepWord.{StepWord}
use Rattle.board.specs.declared.command.StepWord.TheVariants.{Next, Cancel, Retry, Skip}
use Rattle.board.specs.declared.inner.Inner.{Inner}
use Rattle.board.specs.declared.note.Note.{Note}
use Rattle.board.specs.declared.report.Report.{Report}
use Rattle.board.specs.declared.response.Response.TheVariants.{NotPossible as NotPossibleResponse}
use Rattle.board.specs.declared.setting.Settings.{Settings}
use Rattle.board.specs.Acting.{acted, opened_by, started_by}
use Rattle.board.specs.Book.{Book, succeeded, emptied, valued}
use Rattle.board.specs.Judging.{class_as, preset_as, cancel_only, or_retry, or_next, second_step, step_in}
use Rattle.board.specs.Notes.{nothing, takes, at_once, answers}
use Rattle.board.specs.Registers.{shown, posted, open_word}
use Rattle.board.specs.Scans.{responded, judged, in_board}
use Rattle.board.proofs.Invariant.{WordFor, Tied, Inv, Kept, Within}

-- a word whose success changes nothing in the book, and that is no response with a meaning of its own
pub record Plain (w : ℕ) : Type 0 where
  pub unchanged : (load : ℤ) (b : Book) → succeeded w load b ≡ b
  pub not_working : w ≡ 2047 → ⊥
  pub fits : w < 65536

-- what the command list says of a word with its class
abbrev pub Listed : ℕ → Class → Type 0
Listed w (ReportClass r) = Plain w
Listed w NoOperation = Plain w
Listed w PresetClass = w ≡ 201
Listed w (OrderClass o) = (v : ℤ) → WordFor o w v
Listed w WeightTest = w ≡ 440
Listed w (Step s) = Unit {0}

-- of a word that may not be listed
abbrev pub ListedIn : ℕ → Option Class → Type 0
ListedIn w None = Unit {0}
ListedIn w (Some k) = Listed w k

-- the error responses are such words
plain_1 : Plain 0x8001
plain_1 = record { unchanged = λ _ _. refl; not_working = λ h. omega arith; fits = omega arith }

plain_4 : Plain 0x8004
plain_4 = record { unchanged = λ _ _. refl; not_working = λ h. omega arith; fits = omega arith }

plain_8 : Plain 0x8008
plain_8 = record { unchanged = λ _ _. refl; not_working = λ h. omega arith; fits = omega arith }

module _ (p : ℕ) (patient : 1 ≤ p) (t : Settings) (hb : Bool) (c q : ℕ) (rep : Report)
    (z tr d e v : ℤ) (load : ℤ) (still fault : Bool) (cap : ℕ) (knows : Order → Bool)
    (w : ℕ) (flawed : Bool) (value : Option ℤ) where
  abbrev book : ℕ → Book
  book r = record { zero = z; tare = tr; deviation = d; empty = e; value = v; shown = r }

  abbrev block : ℕ → ℕ → Report → ℕ → State → Block
  block k r rp s st = record { compared = k; report = rp; response = r; sequence = s; state = st }

  abbrev inner : Block → ℤ → Inner
  inner k x = record { settings = t; block = k; deviation = x; heartbeat = hb }

  abbrev scale : ℤ → ℤ → Option Standing → Scale
  scale zero tare o = record { load = load; zero = zero; tare = tare; still = still; fault = fault; standing = o; capacity = cap; knows = knows }

  abbrev word : Option Class → Judged
  word k = record { word = w; flawed = flawed; class = k; value = value }

  -- nothing is open, and a word is answered and closed at once
  closes_at_once : (r r' : ℕ) (rp : Report) → (r' ≡ 2047 → ⊥) → r' < 65536 → (w ≡ r' → Plain w) → Kept p t value (book r) Ready None (inner (posted r' Ready (block w r rp q Ready)) d, at_once w r', scale z tr None)
  closes_at_once r r' rp n47 fits own =
      let b₂ : Book = emptied (Some r') load (valued r' value (book r)) in
      let same : cond (eqb w r') (succeeded w load b₂) b₂ ≡ b₂ = cond_both (eqb w r') (succeeded w load b₂) b₂ (λ (x : Book). x ≡ b₂) (λ h. (own (eqb-true w r' h)).unchanged load b₂) (λ _. refl) in
      let k : Block = posted r' Ready (block w r rp q Ready) in
      record {
        inv = subst (λ (x : Book). Inv p t t k d (scale z tr None) x) (sym same) (record { tied = (tt, n47); zero = refl; tare = refl; deviation = refl; shown = refl; fits = fits; settings = refl });
        account = refl;
        progress = λ k h. absurd h;
      }

  -- the value that the book notes where 2047 shows anew
  abbrev new_value : ℕ → ℤ
  new_value r = cond (not (eqb r 2047)) (unwrap_or value v) v

  new_value_lem : (r : ℕ) (x : ℤ) → (r ≡ 2047 → ⊥) → value ≡ Some x → new_value r ≡ x
  new_value_lem r x n47 is = ap (λ (b : Bool). cond (not b) (unwrap_or value v) v) (ne_eqb r 2047 n47) ∙ ap (λ (o : Option ℤ). unwrap_or o v) is

  -- nothing is open, and a word is taken whose order now stands
  opens : (r : ℕ) (o : Order) → WordFor o w (new_value r) → Kept p t value (book r) Ready None (inner (shown 2047 (Working w) (block w r rep q Ready)) d, takes w, scale z tr (Some (record { order = o; left = p })))
  opens r o for = record {
    inv = record { tied = ((for, patient, omega arith), refl); zero = refl; tare = refl; deviation = refl; shown = refl; fits = omega arith; settings = refl };
    account = refl;
    progress = λ k h. absurd h;
  }

  opens_test : (r : ℕ) → w ≡ 440 → Kept p t value (book r) Ready None (inner (shown 2047 FirstStep (block w r rep q Ready)) d, takes w, scale z tr (Some (record { order = Settle; left = p })))
  opens_test r is = record {
    inv = record { tied = ((tt, patient, omega arith), refl); zero = refl; tare = refl; deviation = refl; shown = refl; fits = omega arith; settings = refl };
    account = ap (λ (x : ℕ). x ∷ []) is;
    progress = λ k h. absurd h;
  }

  -- begin with no order standing: not known, a value that does not fit, or the order stands
  begins : (F : Option ℕ × Scale → Type 0) (o : Order) → F (Some 22, scale z tr None) → F (Some 23, scale z tr None) → F (None, scale z tr (Some (record { order = o; left = p }))) → F (begun p o (scale z tr None))
  begins F o unknown outside stands =
      let s : Scale = scale z tr None in
      let ok : Option ℕ × Scale = (None, scale z tr (Some (record { order = o; left = p }))) in
      cond_both (not (knows o)) (Some 22, s) (cond (not (preset_fits o cap)) (Some 23, s) ok) F (λ _. unknown)
      (λ _. cond_both (not (preset_fits o cap)) (Some 23, s) ok F (λ _. outside) (λ _. stands))

  -- nothing is open, and nothing is done
  rests : (r k : ℕ) → (r ≡ 2047 → ⊥) → r < 65536 → Kept p t value (book r) Ready None (inner (block k r rep q Ready) d, nothing, scale z tr None)
  rests r k n47 fits = record {
    inv = record { tied = (tt, n47); zero = refl; tare = refl; deviation = refl; shown = refl; fits = fits; settings = refl };
    account = refl;
    progress = λ k h. absurd h;
  }

  -- a word that is taken is closed with an error
  refused : (r r' : ℕ) → Plain r' → Kept p t value (book r) Ready None (inner (posted r' Ready (block w r rep q Ready)) d, at_once w r', scale z tr None)
  refused r r' pl = closes_at_once r r' rep pl.not_working pl.fits (λ is. subst Plain (sym is) pl)

  module _ (r : ℕ) (n47 : r ≡ 2047 → ⊥) (fits : r < 65536) where
    abbrev Taken : Block × Note × Scale → Type 0
    Taken x = Kept p t value (book r) Ready None (in_board (inner (block c r rep q Ready) d) x)

    abbrev at : Block
    at = block w r rep q Ready

    taken_order : (o : Order) → WordFor o w (new_value r) → Taken (acted p w (Opened o (Working w)) at (scale z tr None))
    taken_order o for = begins (λ (x : Option ℕ × Scale). Taken (opened_by w (Working w) at x)) o (refused r 0x8004 plain_4) (refused r 0x8008 plain_8) (opens r o for)

    taken_preset : (x : Option ℤ) → value ≡ x → w ≡ 201 → (k : Option Class) → Taken (acted p w (preset_as (word k) x) at (scale z tr None))
    taken_preset None is w201 k = refused r 0x8008 plain_8
    taken_preset (Some x) is w201 k = taken_order (PresetTare x) (w201, sym (new_value_lem r x n47 is))

    taken_class : (k : Option Class) → ListedIn w k → (j : Option Class) → Taken (acted p w (class_as (word j) k) at (scale z tr None))
    taken_class None listed j = refused r 0x8004 plain_4
    taken_class (Some (ReportClass x)) listed j = closes_at_once r w x listed.not_working listed.fits (λ _. listed)
    taken_class (Some NoOperation) listed j = closes_at_once r w rep listed.not_working listed.fits (λ _. listed)
    taken_class (Some PresetClass) listed j = taken_preset value refl listed j
    taken_class (Some (OrderClass o)) listed j = taken_order o (listed (new_value r))
    taken_class (Some WeightTest) listed j = begins (λ (x : Option ℕ × Scale). Taken (opened_by w FirstStep at x)) Settle (refused r 0x8004 plain_4) (refused r 0x8008 plain_8) (opens_test r listed)
    taken_class (Some (Step x)) listed j = refused r 0x8001 plain_1

    -- nothing is open
    pub ready : (k : Option Class) → ListedIn w k → Kept p t value (book r) Ready None (judged p (inner (block c r rep q Ready) d) (scale z tr None) (word k))
    ready k listed =
        let i : Inner = inner (block c r rep q Ready) d in
        let s : Scale = scale z tr None in
        let bad : Verdict = Closed NotPossibleResponse in
        let good : Verdict = class_as (word k) k in
        cond_both (eqb w c) (i, nothing, s) (in_board i (acted p w (cond flawed bad good) at s)) (Kept p t value (book r) Ready None)
        (λ _. rests r c n47 fits)
        (λ _. cond_both flawed bad good (λ (x : Verdict). Taken (acted p w x at s)) (λ _. refused r 0x8001 plain_1) (λ _. taken_class k listed k))

  -- the open command is cancelled: the next answered scan posts
  cancels : (r : ℕ) (st : State) (o : Option Standing) (w₀ : ℕ) → open_word st ≡ Some w₀ → w₀ < 2048 → ((k : ℕ) → Within (suc k) st o → 1 ≤ k) → Kept p t value (book r) st o (inner (shown 2004 (Cancelling w₀) (block w r rep q st)) d, nothing, scale z tr None)
  cancels r st o w₀ is small soon = record {
    inv = record { tied = (tt, refl, small); zero = refl; tare = refl; deviation = refl; shown = refl; fits = omega arith; settings = refl };
    account = ap (λ (x : Option ℕ). option_to_list x ++ []) is;
    progress = λ k h. inr (soon k h, sym is);
  }

  only_cancel : (F : Verdict → Type 0) (w₀ : ℕ) → F Ignored → F (Cancelled w₀) → (x : Option StepWord) → F (cancel_only w₀ x)
  only_cancel F w₀ a b None = a
  only_cancel F w₀ a b (Some Next) = a
  only_cancel F w₀ a b (Some Cancel) = b
  only_cancel F w₀ a b (Some Retry) = a
  only_cancel F w₀ a b (Some Skip) = a

  -- an order stands, with m tends left before the scan and n after it, and nothing is due
  waits : (st : State) (w₀ : ℕ) (o : Order) (m n : ℕ) (k : Option Class)
      → open_word st ≡ Some w₀ → w₀ < 2048
      → Tied p st 2047 (Some (record { order = o; left = n })) e v
      → ((k : ℕ) → Within (suc k) st (Some (record { order = o; left = m })) → Within k st (Some (record { order = o; left = n })))
      → ((k : ℕ) → Within (suc k) st (Some (record { order = o; left = m })) → 1 ≤ k)
      → Kept p t value (book 2047) st (Some (record { order = o; left = m }))
      (cond (eqb w c) (inner (block c 2047 rep q st) d, nothing, scale z tr (Some (record { order = o; left = n })))
      (in_board (inner (block c 2047 rep q st) d) (acted p w (cancel_only w₀ (step_in k)) (block w 2047 rep q st) (scale z tr (Some (record { order = o; left = n }))))))
  waits st w₀ o m n k is small tied less soon =
      let i : Inner = inner (block c 2047 rep q st) d in
      let s : Scale = scale z tr (Some (record { order = o; left = n })) in
      let K : Inner × Note × Scale → Type 0 = Kept p t value (book 2047) st (Some (record { order = o; left = m })) in
      let stays : (x : ℕ) → K (inner (block x 2047 rep q st) d, nothing, s) = λ x. record {
        inv = record { tied = tied; zero = refl; tare = refl; deviation = refl; shown = refl; fits = omega arith; settings = refl };
        account = ap (λ (x : Option ℕ). option_to_list x ++ []) is ∙ ap (λ (x : Option ℕ). [] ++ option_to_list x) (sym is);
        progress = λ k h. inr (less k h, refl);
      } in
      cond_both (eqb w c) (i, nothing, s) (in_board i (acted p w (cancel_only w₀ (step_in k)) (block w 2047 rep q st) s)) K
      (λ _. stays c)
      (λ _. only_cancel (λ (x : Verdict). K (in_board i (acted p w x (block w 2047 rep q st) s))) w₀ (stays w) (cancels 2047 st _ w₀ is small soon) (step_in k))

  -- the open command is closed by an error, and the weights stay
  errs : (r : ℕ) (st : State) (w₀ r' : ℕ) (o : Option Standing) → open_word st ≡ Some w₀ → (w₀ ≡ r' → ⊥) → (r' ≡ 2047 → ⊥) → r' < 65536 → Kept p t value (book r) st o (inner (posted r' Ready (block c r rep q st)) d, answers r' (Some w₀), scale z tr None)
  errs r st w₀ r' o is other n47 fits =
      let b₂ : Book = emptied (Some r') load (valued r' value (book r)) in
      let same : cond (eqb w₀ r') (succeeded w₀ load b₂) b₂ ≡ b₂ = ap (λ (x : Bool). cond x (succeeded w₀ load b₂) b₂) (ne_eqb w₀ r' other) in
      record {
        inv = subst (λ (x : Book). Inv p t t (posted r' Ready (block c r rep q st)) d (scale z tr None) x) (sym same) (record { tied = (tt, n47); zero = refl; tare = refl; deviation = refl; shown = refl; fits = fits; settings = refl });
        account = ap (λ (x : Option ℕ). option_to_list x ++ []) is;
        progress = λ k h. inl tt;
      }

  -- what a scan leaves after a tend that told and left this
  abbrev Turn : ℕ → State → Option Standing → Option Class → Told × Scale → Type 0
  Turn r st o k y = Kept p t value (book r) st o (responded p (inner (block c r rep q st) d) y.0 y.1 (word k))

  module _ (m : ℕ) (k : Option Class) where
    abbrev with : Order → Option Standing
    with o = Some (record { order = o; left = m })

    not_possible : (w₀ : ℕ) (o : Order) → (w₀ ≡ 0x8001 → ⊥) → Turn 2047 (Working w₀) (with o) k (NotPossible, scale z tr None)
    not_possible w₀ o other = errs 2047 (Working w₀) w₀ 0x8001 (with o) refl other (λ h. omega arith) (omega arith)

    -- taring and zeroing, by a command whose success the book enters as such
    tares : (w₀ : ℕ) (o : Order) → (w₀ ≡ 0x8001 → ⊥) → Turn 2047 (Working w₀) (with o) k (Done, scale z (load -ℤ z) None) → Turn 2047 (Working w₀) (with o) k (ended (tared (scale z tr (with o))))
    tares w₀ o other done = cond_both (le_z (pos 0) (load -ℤ z)) (Done, scale z (load -ℤ z) (with o)) (NotPossible, scale z tr (with o)) (λ (y : Told × Scale). Turn 2047 (Working w₀) (with o) k (ended y)) (λ _. done) (λ _. not_possible w₀ o other)

    zeroes : (w₀ : ℕ) (o : Order) → (w₀ ≡ 0x8001 → ⊥) → Turn 2047 (Working w₀) (with o) k (Done, scale load (pos 0) None) → Turn 2047 (Working w₀) (with o) k (ended (zeroed (scale z tr (with o))))
    zeroes w₀ o other done = cond_both (leb (nat_abs load * 50) cap) (Done, scale load (pos 0) (with o)) (NotPossible, scale z tr (with o)) (λ (y : Told × Scale). Turn 2047 (Working w₀) (with o) k (ended y)) (λ _. done) (λ _. not_possible w₀ o other)

    -- the order is carried out
    carries : (w₀ : ℕ) (o : Order) → WordFor o w₀ v → Turn 2047 (Working w₀) (with o) k (ended (carried o (scale z tr (with o))))
    carries w₀ TareWhenStill is = subst (λ (x : ℕ). Turn 2047 (Working x) (with TareWhenStill) k (ended (tared (scale z tr (with TareWhenStill))))) (sym is) (tares 400 TareWhenStill (λ h. omega arith) (record { inv = record { tied = (tt, λ h. omega arith); zero = refl; tare = refl; deviation = refl; shown = refl; fits = omega arith; settings = refl }; account = refl; progress = λ k h. inl tt }))
    carries w₀ ZeroWhenStill is = subst (λ (x : ℕ). Turn 2047 (Working x) (with ZeroWhenStill) k (ended (zeroed (scale z tr (with ZeroWhenStill))))) (sym is) (zeroes 401 ZeroWhenStill (λ h. omega arith) (record { inv = record { tied = (tt, λ h. omega arith); zero = refl; tare = refl; deviation = refl; shown = refl; fits = omega arith; settings = refl }; account = refl; progress = λ k h. inl tt }))
    carries w₀ TareNow is = subst (λ (x : ℕ). Turn 2047 (Working x) (with TareNow) k (ended (tared (scale z tr (with TareNow))))) (sym is) (tares 403 TareNow (λ h. omega arith) (record { inv = record { tied = (tt, λ h. omega arith); zero = refl; tare = refl; deviation = refl; shown = refl; fits = omega arith; settings = refl }; account = refl; progress = λ k h. inl tt }))
    carries w₀ ZeroNow is = subst (λ (x : ℕ). Turn 2047 (Working x) (with ZeroNow) k (ended (zeroed (scale z tr (with ZeroNow))))) (sym is) (zeroes 404 ZeroNow (λ h. omega arith) (record { inv = record { tied = (tt, λ h. omega arith); zero = refl; tare = refl; deviation = refl; shown = refl; fits = omega arith; settings = refl }; account = refl; progress = λ k h. inl tt }))
    carries w₀ ClearTare is = subst (λ (x : ℕ). Turn 2047 (Working x) (with ClearTare) k (Done, scale z (pos 0) None)) (sym is) (record { inv = record { tied = (tt, λ h. omega arith); zero = refl; tare = refl; deviation = refl; shown = refl; fits = omega arith; settings = refl }; account = refl; progress = λ k h. inl tt })
    carries w₀ (PresetTare y) is = subst (λ (x : ℕ). Turn 2047 (Working x) (with (PresetTare y)) k (Done, scale z y None)) (sym is.0) (record { inv = record { tied = (tt, λ h. omega arith); zero = refl; tare = is.1; deviation = refl; shown = refl; fits = omega arith; settings = refl }; account = refl; progress = λ k h. inl tt })
    carries w₀ Settle is = absurd is

    small : (w₀ : ℕ) (o : Order) → WordFor o w₀ v → w₀ < 2048
    small w₀ TareWhenStill is = omega arith
    small w₀ ZeroWhenStill is = omega arith
    small w₀ TareNow is = omega arith
    small w₀ ZeroNow is = omega arith
    small w₀ ClearTare is = omega arith
    small w₀ (PresetTare y) is = omega arith
    small w₀ Settle is = absurd is

    -- one tend of an order that stands
    attempts : (F : Told × Scale → Type 0) (o : Order) → F (ended (carried o (scale z tr (with o)))) → F (Late, scale z tr None) → ((m - 1 ≡ 0 → ⊥) → F (Waiting, scale z tr (Some (record { order = o; left = m - 1 })))) → F (worked (scale z tr (with o)))
    attempts F o ends late waiting =
        let s : Scale = scale z tr (with o) in
        let l : Told × Scale = (Late, scale z tr None) in
        let x : Told × Scale = (Waiting, scale z tr (Some (record { order = o; left = m - 1 }))) in
        cond_both (isReady o s) (ended (carried o s)) (cond (eqb (m - 1) 0) l x) F (λ _. ends)
        (λ _. cond_both (eqb (m - 1) 0) l x F (λ _. late) (λ h. waiting (eqb-false (m - 1) 0 h)))

    pub working : (w₀ : ℕ) (o : Order) → WordFor o w₀ v → 1 ≤ m → m ≤ p → Turn 2047 (Working w₀) (with o) k (worked (scale z tr (with o)))
    working w₀ o for low high =
        let sm : w₀ < 2048 = small w₀ o for in
        attempts (Turn 2047 (Working w₀) (with o) k) o (carries w₀ o for)
        (errs 2047 (Working w₀) w₀ 0x8002 (with o) refl (λ h. omega arith) (λ h. omega arith) (omega arith))
        (λ more. waits (Working w₀) w₀ o m (m - 1) k refl sm ((for, omega arith, omega arith), refl) (λ k h. omega arith) (λ k h. omega arith))

    -- the first step of the weight test
    pub first : 1 ≤ m → m ≤ p → Turn 2047 FirstStep (with Settle) k (worked (scale z tr (with Settle)))
    first low high =
        attempts (Turn 2047 FirstStep (with Settle) k) Settle
        (record { inv = record { tied = (tt, refl, refl); zero = refl; tare = refl; deviation = refl; shown = refl; fits = omega arith; settings = refl }; account = refl; progress = λ k h. inl tt })
        (record { inv = record { tied = (tt, refl); zero = refl; tare = refl; deviation = refl; shown = refl; fits = omega arith; settings = refl }; account = refl; progress = λ k h. inl tt })
        (λ more. waits FirstStep 440 Settle m (m - 1) k refl (omega arith) ((tt, omega arith, omega arith), refl) (λ k h. omega arith) (λ k h. omega arith))

    -- the second step, with the empty weight and the value of the book
    pub second : 1 ≤ m → m ≤ p → Turn 2047 (SecondStep e v) (with Settle) k (worked (scale z tr (with Settle)))
    second low high =
        attempts (Turn 2047 (SecondStep e v) (with Settle) k) Settle
        (record { inv = record { tied = (tt, λ h. omega arith); zero = refl; tare = refl; deviation = refl; shown = refl; fits = omega arith; settings = refl }; account = refl; progress = λ k h. inl tt })
        (record { inv = record { tied = (tt, refl, refl); zero = refl; tare = refl; deviation = refl; shown = refl; fits = omega arith; settings = refl }; account = refl; progress = λ k h. inl tt })
        (λ more. waits (SecondStep e v) 440 Settle m (m - 1) k refl (omega arith) ((tt, omega arith, omega arith), refl, refl, refl) (λ k h. omega arith) (λ k h. omega arith))

  -- a step that failed or is awaited, with the response r, which is not 2047: nothing is done, it fails again, or it starts
  module _ (r : ℕ) (st : State) (n47 : r ≡ 2047 → ⊥) (fits : r < 65536) (is : open_word st ≡ Some 440) (none : (k : ℕ) → Within k st None → ⊥) where
    abbrev Step' : Block × Note × Scale → Type 0
    Step' x = Kept p t value (book r) st None (in_board (inner (block c r rep q st) d) x)

    stays : (k : ℕ) → Tied p st r None e (cond (eqb r 2047 && not (eqb r 2047)) (unwrap_or value v) v) → Kept p t value (book r) st None (inner (block k r rep q st) d, nothing, scale z tr None)
    stays k tied = record {
      inv = record { tied = tied; zero = refl; tare = refl; deviation = refl; shown = refl; fits = fits; settings = refl };
      account = ap (λ (x : Option ℕ). option_to_list x ++ []) is ∙ ap (λ (x : Option ℕ). [] ++ option_to_list x) (sym is);
      progress = λ k h. absurd (none (suc k) h);
    }

    fails : (st' : State) → open_word st' ≡ Some 440 → Tied p st' 0x8020 None e v → Kept p t value (book r) st None (inner (posted 0x8020 st' (block w r rep q st)) d, answers 0x8020 None, scale z tr None)
    fails st' is' tied = record {
      inv = record { tied = tied; zero = refl; tare = refl; deviation = refl; shown = refl; fits = omega arith; settings = refl };
      account = ap (λ (x : Option ℕ). option_to_list x ++ []) is ∙ ap (λ (x : Option ℕ). [] ++ option_to_list x) (sym is');
      progress = λ k h. inl tt;
    }

    starts : (st' failed : State) → open_word st' ≡ Some 440 → open_word failed ≡ Some 440 → Tied p st' 2047 (Some (record { order = Settle; left = p })) e (new_value r) → Tied p failed 0x8020 None e v → Step' (acted p w (Started st' failed) (block w r rep q st) (scale z tr None))
    starts st' failed is' isF tied tiedF =
        begins (λ (x : Option ℕ × Scale). Step' (started_by st' failed (block w r rep q st) x)) Settle (fails failed isF tiedF) (fails failed isF tiedF)
        (record {
          inv = record { tied = tied; zero = refl; tare = refl; deviation = refl; shown = refl; fits = omega arith; settings = refl };
          account = ap (λ (x : Option ℕ). option_to_list x ++ []) is ∙ ap (λ (x : Option ℕ). [] ++ option_to_list x) (sym is');
          progress = λ k h. absurd (none (suc k) h);
        })

    -- the second step, from an awaited or failed one
    second_step_lem : (x : Option ℤ) → value ≡ x → Step' (acted p w (second_step e x cap) (block w r rep q st) (scale z tr None))
    second_step_lem None has = fails (SecondFailed e) refl (tt, refl, refl)
    second_step_lem (Some y) has =
        cond_both (le_z (pos 1) y && le_z y (pos cap)) (Started (SecondStep e y) (SecondFailed e)) (Failed (SecondFailed e)) (λ (x : Verdict). Step' (acted p w x (block w r rep q st) (scale z tr None)))
        (λ _. starts (SecondStep e y) (SecondFailed e) refl refl ((tt, patient, omega arith), refl, refl, sym (new_value_lem r y n47 has)) (tt, refl, refl))
        (λ _. fails (SecondFailed e) refl (tt, refl, refl))

    -- a word is judged, by what each verdict does
    judges : (x : Verdict) → Tied p st r None e (cond (eqb r 2047 && not (eqb r 2047)) (unwrap_or value v) v) → Step' (acted p w x (block w r rep q st) (scale z tr None)) → Kept p t value (book r) st None (cond (eqb w c) (inner (block c r rep q st) d, nothing, scale z tr None) (in_board (inner (block c r rep q st) d) (acted p w x (block w r rep q st) (scale z tr None))))
    judges x tied does =
        cond_both (eqb w c) (inner (block c r rep q st) d, nothing, scale z tr None) (in_board (inner (block c r rep q st) d) (acted p w x (block w r rep q st) (scale z tr None))) (Kept p t value (book r) st None) (λ _. stays c tied) (λ _. does)

    cancelled : Step' (acted p w (Cancelled 440) (block w r rep q st) (scale z tr None))
    cancelled = cancels r st None 440 is (omega arith) (λ k h. absurd (none (suc k) h))

  or_retry_lem : (F : Verdict → Type 0) (x : Verdict) → F Ignored → F (Cancelled 440) → F x → (y : Option StepWord) → F (or_retry x y)
  or_retry_lem F x a b f None = a
  or_retry_lem F x a b f (Some Next) = a
  or_retry_lem F x a b f (Some Cancel) = b
  or_retry_lem F x a b f (Some Retry) = f
  or_retry_lem F x a b f (Some Skip) = a

  or_next_lem : (F : Verdict → Type 0) (x : Verdict) → F Ignored → F (Cancelled 440) → F x → (y : Option StepWord) → F (or_next x y)
  or_next_lem F x a b f None = a
  or_next_lem F x a b f (Some Next) = f
  or_next_lem F x a b f (Some Cancel) = b
  or_next_lem F x a b f (Some Retry) = a
  or_next_lem F x a b f (Some Skip) = a

  pub first_failed : (k : Option Class) → Turn 0x8020 FirstFailed None k (Idle, scale z tr None)
  first_failed k =
      let n47 : (◌≡◌ {A = ℕ} 0x8020 2047) → ⊥ = λ h. omega arith in
      let F : Verdict → Type 0 = λ x. Step' 0x8020 FirstFailed n47 (omega arith) refl (λ k h. h) (acted p w x (block w 0x8020 rep q FirstFailed) (scale z tr None)) in
      judges 0x8020 FirstFailed n47 (omega arith) refl (λ k h. h) (or_retry (Started FirstStep FirstFailed) (step_in k)) (tt, refl)
      (or_retry_lem F (Started FirstStep FirstFailed)
      (stays 0x8020 FirstFailed n47 (omega arith) refl (λ k h. h) w (tt, refl))
      (cancelled 0x8020 FirstFailed n47 (omega arith) refl (λ k h. h))
      (starts 0x8020 FirstFailed n47 (omega arith) refl (λ k h. h) FirstStep FirstFailed refl refl ((tt, patient, omega arith), refl) (tt, refl))
      (step_in k))

  pub between : (k : Option Class) → Turn 2045 (Between e) None k (Idle, scale z tr None)
  between k =
      let n47 : (◌≡◌ {A = ℕ} 2045 2047) → ⊥ = λ h. omega arith in
      let F : Verdict → Type 0 = λ x. Step' 2045 (Between e) n47 (omega arith) refl (λ k h. h) (acted p w x (block w 2045 rep q (Between e)) (scale z tr None)) in
      judges 2045 (Between e) n47 (omega arith) refl (λ k h. h) (or_next (second_step e value cap) (step_in k)) (tt, refl, refl)
      (or_next_lem F (second_step e value cap)
      (stays 2045 (Between e) n47 (omega arith) refl (λ k h. h) w (tt, refl, refl))
      (cancelled 2045 (Between e) n47 (omega arith) refl (λ k h. h))
      (second_step_lem 2045 (Between e) n47 (omega arith) refl (λ k h. h) value refl)
      (step_in k))

  pub second_failed : (k : Option Class) → Turn 0x8020 (SecondFailed e) None k (Idle, scale z tr None)
  second_failed k =
      let n47 : (◌≡◌ {A = ℕ} 0x8020 2047) → ⊥ = λ h. omega arith in
      let F : Verdict → Type 0 = λ x. Step' 0x8020 (SecondFailed e) n47 (omega arith) refl (λ k h. h) (acted p w x (block w 0x8020 rep q (SecondFailed e)) (scale z tr None)) in
      judges 0x8020 (SecondFailed e) n47 (omega arith) refl (λ k h. h) (or_retry (second_step e value cap) (step_in k)) (tt, refl, refl)
      (or_retry_lem F (second_step e value cap)
      (stays 0x8020 (SecondFailed e) n47 (omega arith) refl (λ k h. h) w (tt, refl, refl))
      (cancelled 0x8020 (SecondFailed e) n47 (omega arith) refl (λ k h. h))
      (second_step_lem 0x8020 (SecondFailed e) n47 (omega arith) refl (λ k h. h) value refl)
      (step_in k))

  pub cancelling : (w₀ : ℕ) (k : Option Class) → w₀ < 2048 → Turn 2004 (Cancelling w₀) None k (Idle, scale z tr None)
  cancelling w₀ k small = errs 2004 (Cancelling w₀) w₀ 0x8010 None refl (λ h. omega arith) (λ h. omega arith) (omega arith)
