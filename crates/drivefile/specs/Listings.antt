-- The listing of a drive file, for every file of any length.
use Rattle.std.specs.Prelude.{◌≡◌, ℕ, cond, List, ◌++◌, length, take, drop, Some, None, Option, Result, nat_lt}
use Rattle.weigher.specs.Bases.{scale_of}
use Rattle.weigher.specs.Fresh.{fresh}
use Rattle.weigher.specs.Ramp.{ramp_refusal}
use Rattle.weigher.specs.Ramps.{Ramp, ramp_kind}
use Rattle.board.specs.declared.journal.Call.{Call}
use Rattle.board.specs.declared.journal.Entry.{Entry}
use Rattle.board.specs.declared.look.Look.{Look}
use Rattle.board.specs.declared.setting.Settings.{Settings}
use Rattle.board.specs.Promise.{Promise}
use Rattle.board.specs.Settings.{setting_refusal, number_of as order_number}
use Rattle.drivefile.specs.declared.fault.Fault.{Fault}
use Rattle.drivefile.specs.declared.outcome.Failure.{Failure}
use Rattle.drivefile.specs.declared.outcome.Failure.TheVariants.{Faulty, Memory}
use Rattle.drivefile.specs.declared.record.Turn.TheVariants.{First, Second, Later}
use Rattle.drivefile.specs.Drives.{Reads, EndsAt, tail_line}
use Rattle.drivefile.specs.Faults.{number_of}
use Rattle.drivefile.specs.Heads.{order_in, increment_in, start_in, step_in, target_in}
use Rattle.drivefile.specs.Lines.{entry_lines, fault_line}
use Rattle.drivefile.specs.Records.{Found, entry, fault, found_at}

-- the fault, if any, before the first call: its number and its place
abbrev pub ramp_fault : Option ℕ → Option (ℕ × ℕ)
ramp_fault None = None
ramp_fault (Some n) = Some (n, 4)

abbrev pub second_fault : Found → Option (ℕ × ℕ)
second_fault (fault n p) = Some (n, p)
second_fault (entry kind body) = ramp_fault (ramp_refusal (start_in body) (step_in body) (target_in body))

abbrev pub setting_fault : List ℕ → Option ℕ → Option (ℕ × ℕ)
setting_fault file None = second_fault (found_at Second file 4)
setting_fault file (Some n) = Some (n, 0)

abbrev pub first_fault : List ℕ → Found → Option (ℕ × ℕ)
first_fault file (fault n p) = Some (n, p)
first_fault file (entry kind body) = setting_fault file (setting_refusal (order_in body) (increment_in body))

abbrev pub head_fault : List ℕ → Option (ℕ × ℕ)
head_fault file = cond (nat_lt 65536 (length file)) (Some (34, 0)) (first_fault file (found_at First file 0))

-- the settings and the ramp are those of the first two records, whose bodies begin at 1 and 5
pub record Headed (file : List ℕ) (s : Settings) (w : Ramp) : Type 0 where
  pub order : order_number s.order ≡ order_in (take 3 (drop 1 file))
  pub increment : s.increment.grams ≡ increment_in (take 3 (drop 1 file))
  pub step : w.sensor.step ≡ step_in (take 12 (drop 5 file))
  pub target : w.sensor.target.grams ≡ target_in (take 12 (drop 5 file))
  pub scale : scale_of w.base ≡ fresh (start_in (take 12 (drop 5 file))) 15000

-- the run that a file makes, whatever is told of it, which keeps its promise: its calls from the third record on, on a board and a ramp of its first two
pub record DrivenRun (file : List ℕ) (s : Settings) (calls : List Call) (start : Look) (journal : List Entry) (tail : Result (Unit {0}) Fault) : Type 0 where
  pub ramp : Ramp
  pub head : Headed file s ramp
  pub place : ℕ
  pub reads : Reads file 17 calls place
  pub ends : EndsAt file place (found_at Later file place) tail
  pub promise : Promise ramp_kind s ramp calls start journal

-- the failure is that fault, which is told even where there is no memory; or there is none, and memory was wanting
abbrev pub FailsBy : Option (ℕ × ℕ) → Failure → Type 0
FailsBy at (Faulty f) = at ≡ Some (number_of f.flaw, f.place)
FailsBy at (Memory e) = at ≡ None

-- a way to tell of a drive file: of a fault before its first call by number and place, and of a run
pub record Text : Type 0 where
  pub of_fault : ℕ → ℕ → List ℕ
  pub of_run : Settings → List Call → List Entry → Result (Unit {0}) Fault → List ℕ

-- these bytes tell of the run that the file makes
pub record Tells (t : Text) (file out : List ℕ) : Type 0 where
  pub settings : Settings
  pub calls : List Call
  pub start : Look
  pub journal : List Entry
  pub tail : Result (Unit {0}) Fault
  pub driven : DrivenRun file settings calls start journal tail
  pub told : out ≡ t.of_run settings calls journal tail

abbrev pub TextBy : Text → List ℕ → List ℕ → Option (ℕ × ℕ) → Type 0
TextBy t file out (Some f) = out ≡ t.of_fault f.0 f.1
TextBy t file out None = Tells t file out

-- these bytes are the text of this file
abbrev pub TextOf : Text → List ℕ → List ℕ → Type 0
TextOf t file out = TextBy t file out (head_fault file)

-- in a listing each call has its line, and the last line says what ended it
abbrev pub listing_text : Text
listing_text = record { of_fault = fault_line; of_run = λ s calls journal tail. entry_lines journal ++ tail_line tail }

-- these bytes are the listing of this file
abbrev pub Listed : List ℕ → List ℕ → Type 0
Listed file out = TextOf listing_text file out

-- no other bytes are a listing of this file
abbrev pub OnlyListing : List ℕ → List ℕ → Type 0
OnlyListing file out = (other : List ℕ) → Listed file other → other ≡ out
