-- An input is read in one way only: a line says one thing. So good input is not refused.
use Rattle.std.proofs.Common.{◌≡◌, ℕ, ◌<◌, ◌⊎◌, List, [], ◌∷◌, ◌++◌, length, ℤ, Some, None, codes, sym, refl, ap, ◌∙◌, subst, inl, inr, arith, length-append, All}
use Rattle.std.proofs.Math.Seq.{get_or-append_seam}
use Rattle.std.proofs.lemmas.List.{append_cancel_left}
use Rattle.weigher.specs.declared.orders.Order.{Order}
use Rattle.weigher.specs.declared.orders.Order.TheVariants.{TareWhenStill, ZeroWhenStill, TareNow, ZeroNow, ClearTare, PresetTare, Settle}
use Rattle.replay.specs.declared.failure.Failure.{Failure}
use Rattle.replay.specs.declared.failure.Failure.TheVariants.{Input, Memory, Streams}
use Rattle.replay.specs.declared.failure.Flaw.{Flaw}
use Rattle.replay.specs.declared.failure.Flaw.TheVariants as flaw
use Rattle.replay.specs.Inputs.{Contents, Settings, Recorded}
use Rattle.replay.specs.Refusals.{LacksOrder, BadSettings, BadOrder, Refused, at_settings, at_order, at_sample, Unread}
use Rattle.replay.specs.Replays.{Unplayed, Unlisted, Listable}
use Rattle.replay.specs.Runs.{declined_at, Explains}
use Rattle.replay.specs.Words.{IsNumber, Reads, Says}
use Rattle.replay.proofs.Blanks.{number_unparted, cut_same}
use Rattle.replay.proofs.Plain.{plain_order, preset_unplain}

settings_same : (line : List ℕ) (c t c' t' : ℤ) → Settings line c t → Settings line c' t' → (c ≡ c') × (t ≡ t')
settings_same line c t c' t' a b =
    let parts = cut_same a.first b.first a.second b.second (number_unparted a.first a.reads_capacity.0) (number_unparted b.first b.reads_capacity.0) (sym a.cut ∙ b.cut) in (
      cc (a.reads_capacity.1, b.reads_capacity.1, parts.0),
      cc (a.reads_tolerance.1, b.reads_tolerance.1, parts.1),
    )

-- an order is a plain one, or a preset with its number
said : (line : List ℕ) (o : Order) → Says line o → (plain_order line ≡ Some o) ⊎ ((v : ℤ) × (t : List ℕ) × (o ≡ PresetTare v) × (line ≡ codes "preset-tare " ++ t) × Reads t v)
said line TareWhenStill e = inl (ap plain_order e)
said line ZeroWhenStill e = inl (ap plain_order e)
said line TareNow e = inl (ap plain_order e)
said line ZeroNow e = inl (ap plain_order e)
said line ClearTare e = inl (ap plain_order e)
said line (PresetTare v) s = inr (v, s.0, refl, s.1, s.2)
said line Settle e = inl (ap plain_order e)

preset_same : (line t u : List ℕ) → line ≡ codes "preset-tare " ++ t → line ≡ codes "preset-tare " ++ u → t ≡ u
preset_same line t u a b = append_cancel_left (codes "preset-tare ") t u (sym a ∙ b)

order_same : (line : List ℕ) (o p : Order) → Says line o → Says line p → o ≡ p
order_same line o p a b =
    elim (said line o a) [
      | inl x ↦
          elim (said line p b) [
            | inl y ↦ cc
            | inr y ↦ absurd (preset_unplain line y.1 o y.3 x)
          ]
      | inr x ↦
          elim (said line p b) [
            | inl y ↦ absurd (preset_unplain line x.1 p x.3 y)
            | inr y ↦
                let same : x.1 ≡ y.1 = preset_same line x.1 y.1 x.3 y.3 in
                let value : x.0 ≡ y.0 = cc (x.4.1, y.4.1) in
                x.2 ∙ ap PresetTare value ∙ sym y.2
          ]
    ]

-- a line that lacks an order names none
lacks_all : (line : List ℕ) (f : Flaw) (o : Order) → LacksOrder line f → Says line o → ⊥
lacks_all line flaw.MissingLine o l s = l
lacks_all line flaw.NoSettings o l s = l
lacks_all line flaw.NoOrder o l s = l.0 o s
lacks_all line flaw.NoNumber o l s =
    elim (said line o s) [
      | inl x ↦ preset_unplain line l.0 o l.1 x
      | inr x ↦ l.2 (subst IsNumber (preset_same line x.1 l.0 x.3 l.1) x.4.0)
    ]
lacks_all line (flaw.Declined d) o l s = l

-- where nothing is declined, only memory can be wanting
explained : (f : Failure) → Explains None f → f ≡ Memory
explained (Input n flaw.MissingLine) x = absurd x
explained (Input n flaw.NoSettings) x = absurd x
explained (Input n flaw.NoOrder) x = absurd x
explained (Input n flaw.NoNumber) x = absurd x
explained (Input n (flaw.Declined d)) x = cc
explained Memory x = refl
explained Streams x = absurd x

module _ (input : List ℕ) (r : Contents) (good : Recorded input r) where
  -- it says nothing else
  same : (s : Contents) → Recorded input s → r ≡ s
  same s other =
      let parted : good.first ∷ (good.second ∷ good.after) ≡ other.first ∷ (other.second ∷ other.after) = sym good.parted ∙ other.parted in
      let first : good.first ≡ other.first = cc in
      let second : good.second ≡ other.second = cc in
      let after : good.after ≡ other.after = cc in
      let settings = settings_same other.first r.capacity r.tolerance s.capacity s.tolerance (subst (λ z. Settings z r.capacity r.tolerance) first good.settings) other.settings in
      let order = order_same other.second r.order s.order (subst (λ z. Says z r.order) second good.order) other.order in
      let samples : r.samples ≡ s.samples = cc (good.samples.1, other.samples.1, after) in
      λ i. record { capacity = settings.0 i; tolerance = settings.1 i; order = order i; samples = samples i }

  -- so it is not refused
  not_refused : (n : ℕ) (f : Flaw) → Refused input n f → ⊥
  not_refused n f (at_settings e bad) = let b : BadSettings (good.first ∷ (good.second ∷ good.after)) f = subst (λ z. BadSettings z f) good.parted bad in b.1 r.capacity r.tolerance good.settings
  not_refused n f (at_order first after c t parted settings e bad) =
      let whole : first ∷ after ≡ good.first ∷ (good.second ∷ good.after) = sym parted ∙ good.parted in
      let rest : after ≡ good.second ∷ good.after = cc in
      lacks_all good.second f r.order (subst (λ z. BadOrder z f) rest bad) good.order
  not_refused n f (at_sample first second after c t o parted settings says bad) =
      let whole : first ∷ (second ∷ after) ≡ good.first ∷ (good.second ∷ good.after) = sym parted ∙ good.parted in
      let rest : good.after ≡ bad.numbers ++ (bad.line ∷ bad.after) = let e : good.after ≡ after = cc in e ∙ bad.parted in
      let all : All IsNumber (bad.numbers ++ (bad.line ∷ bad.after)) = subst (All IsNumber) rest good.samples.0 in
      let within : length bad.numbers < length (bad.numbers ++ (bad.line ∷ bad.after)) = omega (arith, length-append bad.numbers (bad.line ∷ bad.after)) in
      bad.no_number (subst IsNumber (get_or-append_seam bad.numbers bad.line bad.after []) (all (length bad.numbers) [] within))

  pub read_or_memory : (f : Failure) → Unread input f → f ≡ Memory
  read_or_memory (Input n w) bad = absurd (not_refused n w bad)
  read_or_memory Memory bad = refl
  read_or_memory Streams bad = absurd bad

  played : (f : Failure) → declined_at r ≡ None → Unplayed input f → f ≡ Memory
  played f none u =
      let accepted : declined_at u.contents ≡ None = ap declined_at (sym (same u.contents u.recorded)) ∙ none in
      explained f (subst (λ at. Explains at f) accepted u.declined)

pub listed_or_memory : (input : List ℕ) (f : Failure) → Unlisted input f → Listable input → f ≡ Memory
listed_or_memory input f (inl bad) g = read_or_memory input g.0 g.1 f bad
listed_or_memory input f (inr u) g = played input g.0 g.1 f g.2 u
