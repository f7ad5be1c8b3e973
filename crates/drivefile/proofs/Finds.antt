-- What is known of the records that are found first and second.
use Rattle.std.proofs.Common.{◌≡◌, ℕ, ◌+◌, ◌<◌, ◌≤◌, true, false, ltb, leb, List, length, get_or, take, drop, ℤ, Some, None, ap₂, arith}
use Rattle.std.proofs.lemmas.Bool.{le-ltb, lt-ltb, le-leb}
use Rattle.std.proofs.lemmas.Bool.Decides.{nat_tests}
use Rattle.std.proofs.lemmas.Grind.{common_steps}
use Rattle.weigher.specs.Ramp.{ramp_refusal}
use Rattle.board.specs.Settings.{setting_refusal}
use Rattle.drivefile.specs.declared.record.Turn.{Turn}
use Rattle.drivefile.specs.declared.record.Turn.TheVariants.{First, Second}
use Rattle.drivefile.specs.Heads.{order_in, increment_in}
use Rattle.drivefile.specs.Listings.{head_fault, second_fault}
use Rattle.drivefile.specs.Records.{entry, found_at, body_length, allowed}

-- what stands at a place where a record of a listed kind is allowed, and has room
pub found_is : (turn : Turn) (file : List ℕ) (p k : ℕ) (b : List ℕ) → p < length file → k ≡ get_or file p 0 → body_length k ≡ Some (length b) → allowed turn k ≡ true → p + 1 + length b ≤ length file → b ≡ take (length b) (drop (p + 1) file) → entry k b ≡ found_at turn file p
found_is turn file p k b here kind listed in_turn room part =
    let inside : ltb p (length file) ≡ true = lt-ltb p (length file) here in
    let sized : body_length (get_or file p 0) ≡ Some (length b) = rw kind at listed in
    let allows : allowed turn (get_or file p 0) ≡ true = rw kind at in_turn in
    let fits : leb (p + 1 + length b) (length file) ≡ true = le-leb (p + 1 + length b) (length file) room in
    rw (inside, sized, allows, fits) (ap₂ entry kind part)

-- a ramp is refused with 44 and no other number
pub ramp_44 : (start step target : ℤ) (n : ℕ) → Some n ≡ ramp_refusal start step target → ramp_refusal start step target ≡ Some 44
ramp_44 start step target n e = grind (arith, nat_tests, common_steps)

-- the bodies of the first two records
pub first_body : (file : List ℕ) (k : ℕ) (b : List ℕ) → entry k b ≡ found_at First file 0 → (length b ≡ 3) × (b ≡ take 3 (drop 1 file))
first_body file k b e = grind (arith, nat_tests, common_steps)

pub second_body : (file : List ℕ) (k : ℕ) (b : List ℕ) → entry k b ≡ found_at Second file 4 → (length b ≡ 12) × (b ≡ take 12 (drop 5 file))
second_body file k b e = grind (arith, nat_tests, common_steps)

-- a reader that has read good settings: where it is, and that the fault, if any, is one of the second record
pub record Settled (file next : List ℕ) (p : ℕ) (b : List ℕ) : Type 0 where
  pub place : p ≡ 4
  pub second : found_at Second next p ≡ found_at Second file 4
  pub told : head_fault file ≡ second_fault (found_at Second next p)
  pub body : b ≡ take 3 (drop 1 file)

pub settled : (file next : List ℕ) (p q k : ℕ) (b : List ℕ) → length file ≤ 65536 → p ≡ 0 → entry k b ≡ found_at First file p → setting_refusal (order_in b) (increment_in b) ≡ None → next ≡ file → q ≡ p + (1 + length b) → Settled file next q b
settled file next p q k b short zero found fine same moved =
    let first : entry k b ≡ found_at First file 0 = rw zero at found in
    let body = first_body file k b first in
    let four : q ≡ 4 = omega (arith, body.0) in
    let fits : ltb 65536 (length file) ≡ false = le-ltb 65536 (length file) short in
    record {
      place = four;
      second = rw (same, four);
      told = rw (fits, ← first, fine, same, four);
      body = body.1;
    }
