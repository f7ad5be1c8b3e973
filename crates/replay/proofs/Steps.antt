-- One tend more of a run.
use Rattle.std.proofs.Common.{Option, unsigned_abs, ◌≡◌, ℕ, suc, ◌+◌, ◌-◌, ◌<◌, ◌≤◌, true, false, List, [], ◌∷◌, ◌++◌, length, ℤ, pos, ap, ◌∙◌, arith}
use Rattle.std.proofs.lemmas.Bool.Decides.{nat_tests}
use Rattle.weigher.specs.declared.answers.Told.{Told}
use Rattle.weigher.specs.Cell.{taken_next, CellMoves}
use Rattle.weigher.specs.declared.orders.Order.{Order}
use Rattle.weigher.specs.Fresh.{fresh}
use Rattle.weigher.specs.Rules.{worked, sensed, begun}
use Rattle.weigher.specs.Scale.{Scale}
use Rattle.replay.specs.declared.journal.Entry.{Entry}
use Rattle.replay.specs.Entries.{entry_of, is_waiting}
use Rattle.replay.specs.Inputs.{Contents}
use Rattle.replay.specs.Runs.{tended, run_on, begun_on, replayed}

-- what a cell's tend ensures says exactly which scale comes
pub tended_by : (t : ℤ) (xs : List ℤ) (n : ℕ) (s u : Scale) (told : Told) → (told, u) ≡ worked (sensed s u) → CellMoves t xs n s.load u.load u.still u.fault → (told, u) ≡ tended t xs n s
unfolding tended
tended_by t xs n s u told e m = e ∙ rw (m.load, m.still_read, m.fault_read)

-- one sample more is taken, while there are samples
pub taken_more : (xs : List ℤ) (n : ℕ) → n < length xs → taken_next xs n ≡ n + 1
taken_more xs n lt = grind (arith, nat_tests)

-- one tend more, of which this is told
module _ (t : ℤ) (xs : List ℤ) (es : List Entry) (n count : ℕ) (s u : Scale) (told : Told) (x : Entry) (more : n < count) (e : (told, u) ≡ tended t xs n s) (q : x ≡ entry_of (n + 1) told u) where
  pub run_more : is_waiting told ≡ true → run_on t xs (es ++ (x ∷ [])) (count - (n + 1)) (n + 1) u ≡ run_on t xs es (count - n) n s
  unfolding run_on
  run_more w = let left : count - n ≡ suc (count - (n + 1)) = omega arith in rw (left, ← e, w, q)

  pub run_last : is_waiting told ≡ false → (es ++ (x ∷ []), u) ≡ run_on t xs es (count - n) n s
  unfolding run_on
  run_last w = let left : count - n ≡ suc (count - (n + 1)) = omega arith in rw (left, ← e, w, q)

pub run_all : (t : ℤ) (xs : List ℤ) (es : List Entry) (n count : ℕ) (s : Scale) → count ≤ n → (es, s) ≡ run_on t xs es (count - n) n s
unfolding run_on
run_all t xs es n count s le = let none : count - n ≡ 0 = omega arith in rw none

-- the cell of a recording, which is new and has its order begun
pub begun_so : (r : Contents) (o : Order) (s : Scale) (x : Option ℕ × Scale) → x ≡ begun 200 o s → s ≡ fresh (pos 0) (unsigned_abs r.capacity) → o ≡ r.order → x ≡ begun_on r
begun_so r o s x e new order = e ∙ ap (begun 200 o) new ∙ ap (λ z. begun 200 z (fresh (pos 0) (unsigned_abs r.capacity))) order

-- and its run
pub replayed_so : (r : Contents) (t : ℤ) (xs : List ℤ) (count : ℕ) (s : Scale) (x : List Entry × Scale) → x ≡ run_on t xs [] count 0 s → t ≡ r.tolerance → xs ≡ r.samples → count ≡ length xs → s ≡ (begun_on r).1 → x ≡ replayed r
replayed_so r t xs count s x e tolerance samples all start = rw (← tolerance, ← samples, ← start, ← all) e
