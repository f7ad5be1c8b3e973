use Rattle.std.proofs.Common.{◌≡◌, ◌+◌, ◌-◌, ◌≤◌, true, length, get_or, take, drop, ap, ◌∙◌, rules, arith, length-drop, take_all}
use Rattle.drivefile.specs.Kinds.{number_of, body_of}
use Rattle.drivefile.specs.Records.{allowed}
use Rattle.drivefile.proofs.Finds.{found_is}
use Rattle.drivefile.proofs.reader.record_at.Goals as goal

pub returns-clause-found : goal.returns-clause-found
returns-clause-found c =
    let file = c.args.file.now in
    let p = c.args.place in
    let b = body_of c.in-Some.record in
    let e = c.in-Some.ensures in
    let kind : number_of c.in_ok-kind.kind ≡ get_or file p 0 = search rules in
    let turn : allowed c.args.turn (number_of c.in_ok-kind.kind) ≡ true = search rules in
    let room : p + 1 + length b ≤ length file = search rules in
    let whole : take (length file - (p + 1)) (drop (p + 1) file) ≡ drop (p + 1) file = take_all _ _ (simp length-drop (omega arith)) in
    let found = found_is c.args.turn file p _ b c.if-place-file.false kind e.1 turn room (e.3 ∙ ap (take (length b)) whole) in
    rw e.0 found
