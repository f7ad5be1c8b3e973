use Rattle.std.proofs.Common.{Some, None, lit<}
use Rattle.std.proofs.lemmas.Str.Pattern.{split_parts}
use Rattle.replay.proofs.Blanks.{unparted_lacks, no_capacity, no_tolerance}
use Rattle.replay.proofs.Plain.{reads_back}
use Rattle.replay.proofs.words.settings.Goals as goal

pub returns-in_err-capacity : goal.returns-in_err-capacity
returns-in_err-capacity c =
    let line = c.args.line.now in
    rw c.from_residual.ensures (unparted_lacks line (split_parts 32 line None c.in_err-capacity.ensures.cases (lit< tt)))

pub returns-in_err-number : goal.returns-in_err-number
returns-in_err-number c =
    let a = c.in_ok-capacity.capacity in
    let b = c.in_ok-capacity.tolerance in
    rw c.from_residual-in_err-number.ensures (no_capacity c.args.line.now a b c.in_ok-capacity.ensures.cases c.in_err-number.ensures)

pub returns-in_err-number-2 : goal.returns-in_err-number-2
returns-in_err-number-2 c =
    let a = c.in_ok-capacity.capacity in
    let b = c.in_ok-capacity.tolerance in
    rw c.from_residual-in_err-number-2.ensures (no_tolerance c.args.line.now a b c.in_ok-capacity.ensures.cases c.in_err-number-2.ensures)

pub returns : goal.returns
returns c =
    let a = c.in_ok-capacity.capacity in
    let b = c.in_ok-capacity.tolerance in
    record {
      first = a.now;
      second = b.now;
      cut = (split_parts 32 c.args.line.now (Some (a, b)) c.in_ok-capacity.ensures.cases (lit< tt)).0;
      reads_capacity = reads_back a.now _ c.in_ok-number.ensures;
      reads_tolerance = reads_back b.now _ c.in_ok-number-2.ensures;
    }
