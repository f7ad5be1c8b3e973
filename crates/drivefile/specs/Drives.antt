-- The calls of a drive file, from the third record on, and how they end.
use Rattle.std.specs.Prelude.{◌≡◌, ℕ, ◌+◌, ◌*◌, true, false, List, [], ◌∷◌, ◌++◌, length, Ok, Err, Result, nat_lt, slice_index}
use Rattle.board.specs.declared.journal.Call.{Call}
use Rattle.board.specs.declared.journal.Call.TheVariants.{Scan, Read, Look}
use Rattle.drivefile.specs.declared.record.Turn.TheVariants.{Later}
use Rattle.drivefile.specs.declared.fault.Fault.{Fault}
use Rattle.drivefile.specs.Faults.{number_of}
use Rattle.drivefile.specs.Lines.{fault_line, end_line}
use Rattle.drivefile.specs.Records.{Found, entry, fault, found_at}

-- the call that a record makes: an image is scanned with a read strip of eight bytes, a read is lent four
abbrev pub Calls : Call → ℕ → List ℕ → Type 0
Calls (Scan write n) kind body = (kind ≡ 2) × (write.now ≡ body) × (n ≡ 8)
Calls (Read address n) kind body = (kind ≡ 4) × (address.class ≡ slice_index body 0 * 256 + slice_index body 1) × (address.instance ≡ slice_index body 2) × (address.attribute ≡ slice_index body 3) × (n ≡ 4)
Calls Look kind body = ⊥

-- the calls of the records from one place of the file up to another
pub data Reads (file : List ℕ) (from : ℕ) : List Call → ℕ → Type 0 where
  none : Reads file from [] from
  more : (calls : List Call) (place : ℕ) (call : Call) (kind : ℕ) (body : List ℕ) → Reads file from calls place → found_at Later file place ≡ entry kind body → Calls call kind body → Reads file from (calls ++ call ∷ []) (place + (1 + length body))

-- what ends it at a place: a fault, or the end record, after which no byte may follow
abbrev pub EndsAt : List ℕ → ℕ → Found → Result (Unit {0}) Fault → Type 0
EndsAt file place (fault n p) (Err f) = (number_of f.flaw ≡ n) × (f.place ≡ p)
EndsAt file place (fault n p) (Ok x) = ⊥
EndsAt file place (entry kind body) (Err f) = (kind ≡ 0) × (nat_lt (place + 1) (length file) ≡ true) × (number_of f.flaw ≡ 33) × (f.place ≡ place + 1)
EndsAt file place (entry kind body) (Ok x) = (kind ≡ 0) × (nat_lt (place + 1) (length file) ≡ false)

-- the last line
abbrev pub tail_line : Result (Unit {0}) Fault → List ℕ
tail_line (Ok x) = end_line
tail_line (Err f) = fault_line (number_of f.flaw) f.place
