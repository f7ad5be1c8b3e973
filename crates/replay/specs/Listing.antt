-- The bytes of a listing: a line for each entry, then zero and tare.
use Rattle.std.specs.Prelude.{ℕ, List, ◌++◌, ℤ, codes, flat_map}
use Rattle.std.specs.Fmt.{signed_decimal}
use Rattle.replay.specs.declared.journal.Entry.{Entry}
use Rattle.replay.specs.Entries.{entry_line}

abbrev pub last_line : ℤ → ℤ → List ℕ
last_line zero tare = codes "zero " ++ (signed_decimal zero ++ (codes " tare " ++ (signed_decimal tare ++ codes "\n")))

-- what a replay tells: its entries, and the zero and tare that it leaves
pub record Account : Type 0 where
  pub entries : List Entry
  pub zero : ℤ
  pub tare : ℤ

abbrev pub listing_of : Account → List ℕ
listing_of a = flat_map (λ e. entry_line e ++ codes "\n") a.entries ++ last_line a.zero a.tare
