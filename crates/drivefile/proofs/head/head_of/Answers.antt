use Rattle.std.proofs.Common.{rules, ◌≡◌, take, drop, None, sym, ap, ◌∙◌, arith}
use Rattle.weigher.specs.Ramp.{ramp_refusal}
use Rattle.drivefile.specs.Heads.{start_in, step_in, target_in}
use Rattle.drivefile.specs.Listings.{head_fault, second_fault, ramp_fault, Headed}
use Rattle.drivefile.proofs.Finds.{second_body, settled}
use Rattle.drivefile.proofs.head.head_of.Goals as goal

pub returns-in_err-second-clause-told : goal.returns-in_err-second-clause-told
returns-in_err-second-clause-told c =
    let first = c.in_ok-first.ensures in
    let s = settled _ _ _ _ _ _ c.if-reader-gt-LONGEST.false c.requires first.found (search rules) first.file first.next in
    let told = s.told ∙ ap second_fault (sym c.in_err-second.ensures.found) in
    search rules

pub returns-in_err-ramp-clause-told : goal.returns-in_err-ramp-clause-told
returns-in_err-ramp-clause-told c =
    let first = c.in_ok-first.ensures in
    let b = c.in-Ramp.body.now in
    let s = settled _ _ _ _ _ _ c.if-reader-gt-LONGEST.false c.requires first.found (search rules) first.file first.next in
    let told : head_fault c.args.reader.now.file.now ≡ ramp_fault (ramp_refusal (start_in b) (step_in b) (target_in b)) = rw c.in-Ramp.is at (s.told ∙ ap second_fault (sym c.in_ok-second.ensures.found)) in
    let at = c.in_ok-second.ensures.place ∙ s.place in
    search rules

pub returns-clause-told : goal.returns-clause-told
returns-clause-told c =
    let first = c.in_ok-first.ensures in
    let b = c.in-Ramp.body.now in
    let file = c.args.reader.now.file.now in
    let s = settled _ _ _ _ _ _ c.if-reader-gt-LONGEST.false c.requires first.found (search rules) first.file first.next in
    let none : ramp_refusal (start_in b) (step_in b) (target_in b) ≡ None = search rules in
    let told : head_fault file ≡ ramp_fault (ramp_refusal (start_in b) (step_in b) (target_in b)) = rw c.in-Ramp.is at (s.told ∙ ap second_fault (sym c.in_ok-second.ensures.found)) in
    let copied : c.unwrap-body.result ≡ c.in-Settings.body.now = search rules in
    let one : c.unwrap-body.result ≡ take 3 (drop 1 file) = copied ∙ rw c.in-Settings.is at s.body in
    let two : b ≡ take 12 (drop 5 file) = rw c.in-Ramp.is at (second_body c.args.reader.now.file.now _ _ (c.in_ok-second.ensures.found ∙ s.second)).1 in
    let all : Headed file c.in_ok-settings.settings c.in_ok-ramp.ramp = record { order = rw (← one) (search rules); increment = rw (← one) (search rules); step = rw (← two) (search rules); target = rw (← two) (search rules); scale = rw (← two) (search rules) } in
    (told ∙ ap ramp_fault none, all)

pub returns-clause-place : goal.returns-clause-place
returns-clause-place c =
    let first = c.in_ok-first.ensures in
    let s = settled _ _ _ _ _ _ c.if-reader-gt-LONGEST.false c.requires first.found (search rules) first.file first.next in
    let body = second_body c.args.reader.now.file.now _ _ (c.in_ok-second.ensures.found ∙ s.second) in
    omega (arith, s.place, body.0, c.in_ok-second.ensures.next)
