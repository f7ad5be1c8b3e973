-- The words of the input: numbers, and the orders that carry no value.
use Rattle.std.proofs.Common.{◌≡◌, ℕ, cond, List, ◌++◌, ℤ, Some, None, codes, Option, sym, ap, ◌∙◌, subst, w32, SFits, to_z, of_z}
use Rattle.std.proofs.lemmas.Int.{to_z-of_z}
use Rattle.std.specs.Str.{bytes_eq}
use Rattle.weigher.specs.declared.orders.Order.{Order}
use Rattle.weigher.specs.declared.orders.Order.TheVariants.{TareWhenStill, ZeroWhenStill, TareNow, ZeroNow, ClearTare, Settle}
use Rattle.replay.specs.Inputs.{Settings}
use Rattle.replay.specs.Words.{Reads}

-- a number that a text writes fits 32 bits, so that it is what its bits say
pub reads_back : (text : List ℕ) (v : ℤ) → Reads text v → Reads text (to_z w32 (of_z w32 v))
reads_back text v h =
    let fits : SFits w32 v = subst (SFits w32) (sym h.1) h.0.1 in
    (h.0, to_z-of_z w32 v fits ∙ h.1)

pub settings_back : (line : List ℕ) (c t : ℤ) → Settings line c t → Settings line (to_z w32 (of_z w32 c)) (to_z w32 (of_z w32 t))
settings_back line c t s =
    record {
      first = s.first;
      second = s.second;
      cut = s.cut;
      reads_capacity = reads_back s.first c s.reads_capacity;
      reads_tolerance = reads_back s.second t s.reads_tolerance;
    }

abbrev named : List ℕ → List ℕ → Order → Option Order → Option Order
named word name o other = cond (bytes_eq word name) (Some o) other

-- the order that a word names, of those that carry no value
abbrev pub plain_order : List ℕ → Option Order
plain_order w =
    named w (codes "tare-when-still") TareWhenStill
    (named w (codes "zero-when-still") ZeroWhenStill
    (named w (codes "tare-now") TareNow
    (named w (codes "zero-now") ZeroNow
    (named w (codes "clear-tare") ClearTare
    (named w (codes "settle") Settle None)))))

-- a preset is no plain order
pub preset_unplain : (line t : List ℕ) (o : Order) → line ≡ codes "preset-tare " ++ t → plain_order line ≡ Some o → ⊥
preset_unplain line t o e h = let z : None ≡ Some o = ap plain_order (sym e) ∙ h in cc
