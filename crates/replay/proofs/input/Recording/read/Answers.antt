use Rattle.std.proofs.Common.{◌≡◌, Some, None, Ok, [], ◌∷◌, refl, arith, rules, ap, ◌∙◌, inl, inr}
use Rattle.std.proofs.lemmas.Grind.{common_steps}
use Rattle.std.proofs.lemmas.Result.{err_from_is_err_and}
use Rattle.replay.specs.declared.failure.Failure.TheVariants.{Input}
use Rattle.replay.specs.declared.failure.Flaw.TheVariants.{MissingLine, NoSettings, NoNumber}
use Rattle.replay.specs.Words.{IsNumber, Reads}
use Rattle.replay.specs.Refusals.{LacksSettings, LacksOrder, at_settings, at_order, at_sample}
use Rattle.replay.proofs.Lines.{first_line, settings_line, order_line, one_line, no_line, none_read, one_read, all_read, not_read}
use Rattle.replay.proofs.Mapped.{mapped_ok, mapped_err}
use Rattle.replay.proofs.Plain.{reads_back, settings_back}
use Rattle.replay.proofs.input.Recording.read.Goals as goal

pub returns-in_err-capacity : goal.returns-in_err-capacity
returns-in_err-capacity c =
    let first = c.in_ok-first.first in
    let there : c.next.result ≡ Some first = grind (arith, common_steps) in
    let a = first_line c.args.text.now c.lines-lines.result c.next.new.self c.next.result first c.lines-lines.ensures.rest there c.next.ensures.steps in
    let none : c.settings.result ≡ None = grind (arith, common_steps) in
    let lacks : LacksSettings first.now = rw none at c.settings.ensures in
    let p = err_from_is_err_and c.from_residual-in_err-capacity.result c.from_residual-in_err-capacity.ensures.1 in
    let flaw : c.in_err-capacity.field-0.0 ≡ Input 1 NoSettings = grind (arith, common_steps) in
    rw (p.1, p.2, flaw) (at_settings refl (rw a.1 (refl, lacks)))

pub returns-in_err-second : goal.returns-in_err-second
returns-in_err-second c =
    let first = c.in_ok-first.first in
    let a = settings_line c.args.text.now _ c.next.new.self c.next.result first c.settings.result (c.in_ok-capacity.capacity, c.in_ok-capacity.tolerance) c.lines-lines.ensures.rest c.next.ensures.steps c.settings.ensures (grind (arith, common_steps)) (grind (arith, common_steps)) in
    let none : c.next-2.result ≡ None = grind (arith, common_steps) in
    let ended : a.0 ≡ [] = no_line a.0 c.next.new.self c.next-2.new.self c.next-2.result a.2 none c.next-2.ensures.steps in
    let p = err_from_is_err_and c.from_residual-in_err-second.result c.from_residual-in_err-second.ensures.1 in
    let flaw : c.in_err-second.field-0.0 ≡ Input 2 MissingLine = grind (arith, common_steps) in
    rw (p.1, p.2, flaw) (at_order first.now a.0 _ _ a.1 a.3 refl (rw ended refl))

pub returns-in_err-order : goal.returns-in_err-order
returns-in_err-order c =
    let first = c.in_ok-first.first in
    let second = c.in_ok-second.second in
    let a = settings_line c.args.text.now _ c.next.new.self c.next.result first c.settings.result (c.in_ok-capacity.capacity, c.in_ok-capacity.tolerance) c.lines-lines.ensures.rest c.next.ensures.steps c.settings.ensures (grind (arith, common_steps)) (grind (arith, common_steps)) in
    let here : c.next-2.result ≡ Some second = grind (arith, common_steps) in
    let b = one_line a.0 c.next.new.self c.next-2.new.self c.next-2.result second a.2 here c.next-2.ensures.steps in
    let p = err_from_is_err_and c.from_residual-in_err-order.result c.from_residual-in_err-order.ensures.1 in
    let w = mapped_err _ c.order.result c.map_err.result c.in_err-order.field-0.0 c.map_err.ensures.cases c.in_err-order.was in
    let lacks : LacksOrder second.now w.0 = rw w.1 at c.order.ensures in
    let flaw : c.in_err-order.field-0.0 ≡ Input 2 w.0 = let made = w.2 in search rules in
    rw (p.1, p.2, flaw) (at_order first.now a.0 _ _ a.1 a.3 refl (rw b.1 lacks))

pub loop-number-init : goal.loop-number-init
loop-number-init c =
    record {
      number = grind (arith, common_steps);
      reading = λ ls left. rw c.new-samples.ensures.items (none_read ls c.into_iter-number-iterator.result.b left);
    }

pub returns-in_err-sample : goal.returns-in_err-sample
returns-in_err-sample c =
    let first = c.in_ok-first.first in
    let second = c.in_ok-second.second in
    let a = settings_line c.args.text.now _ c.next.new.self c.next.result first c.settings.result (c.in_ok-capacity.capacity, c.in_ok-capacity.tolerance) c.lines-lines.ensures.rest c.next.ensures.steps c.settings.ensures (grind (arith, common_steps)) (grind (arith, common_steps)) in
    let named : c.order.result ≡ Ok c.in_ok-order.order = mapped_ok _ c.order.result c.map_err.result c.in_ok-order.order c.map_err.ensures.cases c.in_ok-order.was in
    let b = order_line a.0 c.next.new.self c.next-2.new.self c.next-2.result second c.order.result c.in_ok-order.order a.2 c.next-2.ensures.steps c.order.ensures (grind (arith, common_steps)) named in
    let start : c.into_iter-number-iterator.result.b ≡ c.next-2.new.self = grind (arith, common_steps) in
    let reading = c.loop-number.invariant.reading b.0 (rw start b.2) in
    let none : c.number.result ≡ None = grind (arith, common_steps) in
    let wrong : IsNumber c.in-Some.line.now → ⊥ = rw none at c.number.ensures in
    let at = c.in-Some.ensures.steps.0.0 ∙ c.loop-number.invariant.number in
    let p = err_from_is_err_and c.from_residual-in_err-sample.result c.from_residual-in_err-sample.ensures.1 in
    let flaw : c.in_err-sample.field-0.0 ≡ Input c.in-Some.number NoNumber = grind (arith, common_steps) in
    let parted = a.1 ∙ ap (λ z. first.now ∷ z) b.1 in
    rw (p.1, p.2, flaw)
    (at_sample first.now second.now b.0 _ _ _ parted a.3 b.3
    (not_read b.0 c.loop-number.number-iterator.b c.next-in-loop-number.new.self.b _ reading c.in-Some.line c.in-Some.number c.in-Some.ensures.steps.1 wrong at))

pub loop-number-preserved : goal.loop-number-preserved
loop-number-preserved c =
    let k = c.in-Some.ensures.steps in
    let number : c.number.result ≡ Some c.in_ok-sample.sample = grind (arith, common_steps) in
    let reads : Reads c.in-Some.line.now c.in_ok-sample.sample = rw number at c.number.ensures in
    record {
      number = grind (arith, common_steps);
      reading = λ ls left. rw c.in_ok-push.ensures.items (one_read ls _ _ _ (c.loop-number.invariant.reading ls left) c.in-Some.line _ k.1 (reads_back c.in-Some.line.now _ reads));
    }

pub returns : goal.returns
returns c =
    let first = c.in_ok-first.first in
    let second = c.in_ok-second.second in
    let a = settings_line c.args.text.now _ c.next.new.self c.next.result first c.settings.result (c.in_ok-capacity.capacity, c.in_ok-capacity.tolerance) c.lines-lines.ensures.rest c.next.ensures.steps c.settings.ensures (grind (arith, common_steps)) (grind (arith, common_steps)) in
    let named : c.order.result ≡ Ok c.in_ok-order.order = mapped_ok _ c.order.result c.map_err.result c.in_ok-order.order c.map_err.ensures.cases c.in_ok-order.was in
    let b = order_line a.0 c.next.new.self c.next-2.new.self c.next-2.result second c.order.result c.in_ok-order.order a.2 c.next-2.ensures.steps c.order.ensures (grind (arith, common_steps)) named in
    let start : c.into_iter-number-iterator.result.b ≡ c.next-2.new.self = grind (arith, common_steps) in
    let reading = c.loop-number.invariant.reading b.0 (rw start b.2) in
    record {
      first = first.now;
      second = second.now;
      after = b.0;
      parted = a.1 ∙ ap (λ z. first.now ∷ z) b.1;
      settings = settings_back first.now _ _ a.3;
      order = b.3;
      samples =
          elim c.in-None.ensures.steps [
            | inl ended ↦ absurd (omega (arith, ended.1.0, c.loop-number.invariant.number, c.loop-number.samples.small))
            | inr ended ↦ all_read b.0 c.loop-number.number-iterator.b ended.0 _ reading ended.1
          ];
    }
