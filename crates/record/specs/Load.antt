-- What every call does first: the record out of an area, or why it is not taken.
-- Assumes nothing.
use Rattle.std.specs.Prelude.{[], length, ltb, Result, Ok, Err}
use Rattle.octets.specs.Octets.{Octets, pick}
use Rattle.record.specs.Kinds.{Refusal, Record, Unsound}
use Rattle.record.specs.Kinds.refusal as refusal
use Rattle.area.specs.Map.{area_size}
use Rattle.record.specs.Reading.{decode_of}
use Rattle.record.specs.Judge.{judge_of}

-- the record of no octets: every number is 0
unfoldable pub blank : Record
blank = decode_of []

-- why an area is not gone on with, and the record that it has all the same
abbrev pub unsound : Refusal → Record → Unsound
unsound e r = record { refusal = e; «record» = r }

-- an area too short has no record to be judged
unfoldable pub load_of : Octets → Result Record Unsound
load_of area =
    pick (ltb (length area) area_size) (Err (unsound refusal.TooShort blank))
    (pick (judge_of area) (Ok (decode_of area)) (Err (unsound refusal.RecordDamaged (decode_of area))))
