-- The number of each kind, the kind and the body of a record, and what the reader answers by them.
use Rattle.std.specs.Prelude.{ℕ, List, [], Ok, Err, Result}
use Rattle.drivefile.specs.declared.record.Kind.{Kind}
use Rattle.drivefile.specs.declared.record.Kind.TheVariants as kind
use Rattle.drivefile.specs.declared.record.Record.{Record}
use Rattle.drivefile.specs.declared.record.Record.TheVariants.{Settings, Ramp, Image, Read, End}
use Rattle.drivefile.specs.declared.record.Placed.{Placed}
use Rattle.drivefile.specs.declared.fault.Fault.{Fault}
use Rattle.drivefile.specs.Faults.{number_of as flaw_number}
use Rattle.drivefile.specs.Records.{Found, entry, fault}

abbrev pub number_of : Kind → ℕ
number_of kind.End = 0
number_of kind.Settings = 1
number_of kind.Image = 2
number_of kind.Read = 4
number_of kind.Ramp = 5

abbrev pub kind_of : Record → ℕ
kind_of (Settings body) = 1
kind_of (Ramp body) = 5
kind_of (Image body) = 2
kind_of (Read body) = 4
kind_of End = 0

abbrev pub body_of : Record → List ℕ
body_of (Settings body) = body.now
body_of (Ramp body) = body.now
body_of (Image body) = body.now
body_of (Read body) = body.now
body_of End = []

abbrev pub found_in : Result Placed Fault → Found
found_in (Ok p) = entry (kind_of p.record) (body_of p.record)
found_in (Err f) = fault (flaw_number f.flaw) f.place
