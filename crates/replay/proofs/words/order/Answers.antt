use Rattle.std.proofs.Common.{◌≡◌, List, ℕ, ◌++◌, None, codes, arith}
use Rattle.std.proofs.lemmas.Grind.{common_steps}
use Rattle.std.proofs.lemmas.Result.{err_from_is_err_and}
use Rattle.weigher.specs.declared.orders.Order.{Order}
use Rattle.weigher.specs.declared.orders.Order.TheVariants.{TareWhenStill, ZeroWhenStill, TareNow, ZeroNow, ClearTare, PresetTare, Settle}
use Rattle.replay.specs.declared.failure.Flaw.TheVariants.{NoOrder}
use Rattle.replay.specs.Words.{Says}
use Rattle.replay.proofs.words.order.Goals as goal

pub returns-in_err-value-in_default : goal.returns-in_err-value-in_default
returns-in_err-value-in_default c =
    let line = c.args.line.now in
    let none : c.strip_prefix.result ≡ None = grind (arith, common_steps) in
    let preset : (t : List ℕ) → line ≡ codes "preset-tare " ++ t → ⊥ = rw none at c.strip_prefix.ensures.cases in
    let plain : (o : Order) → Says line o → ⊥ =
    λ o.
    elim o as (λ o. Says line o → ⊥) [
      | TareWhenStill ↦ c.in_default.not-text
      | ZeroWhenStill ↦ c.in_default.not-text-2
      | TareNow ↦ c.in_default.not-text-3
      | ZeroNow ↦ c.in_default.not-text-4
      | ClearTare ↦ c.in_default.not-text-5
      | PresetTare v ↦ λ s. preset s.0 s.1
      | Settle ↦ c.in_default.not-settle
    ] in
    let p = err_from_is_err_and c.from_residual.result c.from_residual.ensures.1 in
    let flaw : c.in_err-value-in_default.field-0.0 ≡ NoOrder = grind (arith, common_steps) in
    rw (p.1, p.2, flaw) (plain, preset)
