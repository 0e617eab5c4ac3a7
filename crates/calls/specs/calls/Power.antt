-- power on octets: the record of a cold bench is written with the profile that is there and every parameter at its default; both wires are empty by their counts.
-- Assumes nothing.
use Rattle.octets.specs.Octets.{Octets}
use Rattle.calls.specs.Kinds.{Record}
use Rattle.record.specs.Reading.{decode_of}
use Rattle.config.specs.Stored.{defaults}
use Rattle.record.specs.Layout.{configured}
use Rattle.record.specs.Claims.{saved}
use Rattle.record.specs.Plan.{cold_record}
use Rattle.views.specs.View.{view_of}
use Rattle.model.specs.Effects.{power}
use Rattle.model.specs.Bench.{rules}
use Rattle.calls.specs.Outcome.{Outcome, outcome, called}
use Rattle.calls.specs.calls.Fresh.{quiet_word}

abbrev pub powered : Record → Octets → Octets → Outcome
powered r a out = outcome quiet_word (saved (configured a defaults) (cold_record r.ends.profile)) out

unfoldable pub power_call : Octets → Octets → Outcome
power_call a out = called (rules power (view_of a)) (powered (decode_of a) a out) a out
