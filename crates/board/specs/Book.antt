-- The book: zero, tare and deviation as they follow from what the board told, and from the load after each answered scan.
use Rattle.std.specs.Prelude.{◌≡◌, ℕ, cond, not, ◌&&◌, List, [], ◌∷◌, ◌++◌, ℤ, pos, ◌-ℤ◌, Some, None, Option, ◌==◌}
use Rattle.std.specs.Option.{unwrap_or}
use Rattle.wire.specs.declared.order.Order.{Order}
use Rattle.wire.specs.Blocks.{value_in, word_at}
use Rattle.wire.specs.Floats.{whole_of}
use Rattle.board.specs.declared.journal.Answer.{Answer}
use Rattle.board.specs.declared.journal.Answer.TheVariants.{Scanned, Replied, Looked, Declined}
use Rattle.board.specs.declared.journal.Entry.{Entry}
use Rattle.board.specs.declared.look.Look.{Look}
use Rattle.board.specs.declared.note.Note.{Note}
use Rattle.board.specs.Account.{look_after}

pub record Book : Type 0 where
  pub zero : ℤ
  pub tare : ℤ
  pub deviation : ℤ
  -- the weight that the weight test found empty
  pub empty : ℤ
  -- the value that the open command came with
  pub value : ℤ
  -- the response that the last answered scan showed
  pub shown : ℕ

-- it begins with what look tells at the start
abbrev pub opened : Look → Book
opened l = record { zero = l.zero; tare = l.tare; deviation = pos 0; empty = pos 0; value = pos 0; shown = 0 }

-- the response that a read image shows
abbrev pub response_in : Order → List ℕ → ℕ
response_in o read = word_at o read 3

-- where 2047 shows and did not before, the value written is noted, if it is whole
abbrev pub valued : ℕ → Option ℤ → Book → Book
valued response value b = record {
  zero = b.zero;
  tare = b.tare;
  deviation = b.deviation;
  empty = b.empty;
  value = cond (response == 2047 && not (b.shown == 2047)) (unwrap_or value b.value) b.value;
  shown = response;
}

-- where 2045 was posted, the gross weight is the empty weight
abbrev pub emptied : Option ℕ → ℤ → Book → Book
emptied None load b = b
emptied (Some r) load b = record {
  zero = b.zero;
  tare = b.tare;
  deviation = b.deviation;
  empty = cond (r == 2045) (load -ℤ b.zero) b.empty;
  value = b.value;
  shown = b.shown;
}

-- the zero, tare and deviation that a command leaves that ended well
abbrev pub zero_after : ℕ → ℤ → Book → ℤ
zero_after w load b = cond (w == 401) load (cond (w == 404) load b.zero)

abbrev pub tare_after : ℕ → ℤ → Book → ℤ
tare_after w load b =
    cond (w == 401) (pos 0)
    (cond (w == 404) (pos 0)
    (cond (w == 400) (load -ℤ b.zero)
    (cond (w == 403) (load -ℤ b.zero)
    (cond (w == 402) (pos 0)
    (cond (w == 201) b.value b.tare)))))

abbrev pub deviation_after : ℕ → ℤ → Book → ℤ
deviation_after w load b = cond (w == 440) (load -ℤ b.zero -ℤ b.empty -ℤ b.value) b.deviation

abbrev pub succeeded : ℕ → ℤ → Book → Book
succeeded w load b = record {
  zero = zero_after w load b;
  tare = tare_after w load b;
  deviation = deviation_after w load b;
  empty = b.empty;
  value = b.value;
  shown = b.shown;
}

-- a word closed by its own number ended well; one closed by any other response changes nothing
abbrev pub settled_by : Option ℕ → Option ℕ → ℤ → Book → Book
settled_by None r load b = b
settled_by (Some w) None load b = b
settled_by (Some w) (Some r) load b = cond (w == r) (succeeded w load b) b

-- the book after an answered scan that showed this response, with this value written, if it is whole
abbrev pub noted : ℕ → Option ℤ → Note → ℤ → Book → Book
noted response value note load b = settled_by note.closed note.posted load (emptied note.posted load (valued response value b))

-- the book after an entry, and after several
abbrev pub entered : Order → Book → Answer → Book
entered o b (Scanned write read note load) = noted (response_in o read) (whole_of (value_in o write)) note load b
entered o b (Replied strip) = b
entered o b (Looked l) = b
entered o b (Declined d) = b

abbrev pub kept : Order → Book → List Entry → Book
kept o b [] = b
kept o b (e ∷ es) = kept o (entered o b e.answer) es

-- the weights that look tells are those of the book
pub record Agrees (l : Look) (b : Book) : Type 0 where
  pub zero : l.zero ≡ b.zero
  pub tare : l.tare ≡ b.tare
  pub deviation : l.deviation ≡ b.deviation

-- at every moment
abbrev pub BookKept : Order → Look → List Entry → Type 0
BookKept o start journal =
    (front rest : List Entry) → journal ≡ front ++ rest → Agrees (look_after start front) (kept o (opened start) front)
