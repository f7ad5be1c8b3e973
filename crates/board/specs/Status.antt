-- The status word: sequence in bits 0 and 1, heartbeat 2, no fault 3, fault 4, centre of zero 5, moving 6, tare not 0 7.
use Rattle.std.specs.Prelude.{ℕ, ◌+◌, ◌*◌, ◌%◌, Bool, cond, not, ◌==◌, nat_le, unsigned_abs}
use Rattle.weigher.specs.Scale.{Scale, gross}
use Rattle.board.specs.declared.inner.Inner.{Inner}
use Rattle.board.specs.declared.status.Status.{Status}

-- a bit by its worth
abbrev pub bit_worth : Bool → ℕ → ℕ
bit_worth b n = cond b n 0

-- the gross weight is within a quarter of the increment
abbrev pub centred : ℕ → Scale → Bool
centred d s = nat_le (4 * unsigned_abs (gross s)) d

-- what a board on this scale tells
abbrev pub status_of : Inner → Scale → Status
status_of i s = record {
  sequence = i.block.sequence;
  heartbeat = i.heartbeat;
  fault = s.fault;
  centred = centred i.settings.increment.grams s;
  still = s.still;
  tared = not (unsigned_abs s.tare == 0);
}

abbrev pub status_word : Status → ℕ
status_word t =
    t.sequence % 4
    + bit_worth t.heartbeat 4
    + bit_worth (not t.fault) 8
    + bit_worth t.fault 16
    + bit_worth t.centred 32
    + bit_worth (not t.still) 64
    + bit_worth t.tared 128
