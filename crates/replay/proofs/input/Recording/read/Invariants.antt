use Rattle.std.proofs.Common.{◌≡◌, ◌+◌, List, ℕ, length, vec_items}
use Rattle.replay.proofs.Lines.{Left, Reading}
use Rattle.replay.proofs.input.Recording.read.Given as goal

-- the lines so far hold the samples so far
abbrev pub invariant-loop-number : goal.invariant-loop-number
invariant-loop-number l =
    record {
      number : l.number-iterator.a.start ≡ length (vec_items l.samples) + 3;
      reading : (ls : List (List ℕ)) → Left l.initial.number-iterator.b ls → Reading ls l.number-iterator.b (vec_items l.samples);
    }
