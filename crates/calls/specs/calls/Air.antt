-- air on octets: an event of the RF field. Kinds 1-7 are notified to the host, kind 8 brings the endpoint's message.
-- Assumes nothing.
use Rattle.std.specs.Prelude.{ℕ, ◌<◌, ◌≡◌, Bool, false, drop, eqb}
use Rattle.octets.specs.Octets.{Octets, pick, splice}
use Rattle.messages.specs.Packets.{notice_packet}
use Rattle.calls.specs.Kinds.{Ring, Record}
use Rattle.air.specs.Air.{event_of, kind_of, is_refused, air_message}
use Rattle.ends.specs.Steps.{aired_in, met}
use Rattle.area.specs.Map.{wire_slots, up_at, endpoint_at}
use Rattle.area.specs.Ring.{free_at, put_into}
use Rattle.record.specs.Reading.{decode_of}
use Rattle.record.specs.Claims.{saved}
use Rattle.record.specs.Fit.{FitRing}
use Rattle.record.specs.Plan.{with_up, with_ends}
use Rattle.views.specs.View.{view_of}
use Rattle.model.specs.calls.Air.{air_rules}
use Rattle.calls.specs.Word.{word_of}
use Rattle.calls.specs.Outcome.{Outcome, outcome, called}

-- the endpoint speaks: kind 8, the one that is not notified
abbrev pub speaks : Octets → Bool
speaks m = eqb (kind_of (event_of m)) 8

-- ---- the record after it

-- the up wire has one packet more where it is notified
abbrev pub aired_up : Record → Octets → Ring
aired_up r m = pick (speaks m) r.up (put_into r.up)

-- both ends' numbers are those that the controller makes of the event
abbrev pub aired_record : Record → Octets → Record
aired_record r m = with_up (aired_up r m) (with_ends (met r.ends m).next r)

-- ---- the area after it

abbrev pub aired_packet : Record → Octets → Octets
aired_packet r m = notice_packet (air_message r.ends.profile (event_of m) m)

-- the notification goes into the first free slot of the up wire
abbrev pub aired_slot : Record → Octets → Octets → Octets
aired_slot r m a = splice a (free_at up_at wire_slots r.up) (aired_packet r m)

-- the endpoint's message, what follows the octet for the kind, goes into its place
abbrev pub aired_place : Octets → Octets → Octets
aired_place m a = splice a endpoint_at (drop 1 m)

abbrev pub aired_area : Record → Octets → Octets → Octets
aired_area r m a = pick (speaks m) (aired_place m a) (aired_slot r m a)

-- one packet is put on the up wire, or none
abbrev pub aired_word : Bool → ℕ
aired_word spoken = word_of false false 0 0 (pick spoken 0 1)

abbrev pub aired : Record → Octets → Octets → Octets → Outcome
aired r m a out = outcome (aired_word (speaks m)) (saved (aired_area r m a) (aired_record r m)) out

unfoldable pub air_call : Octets → Octets → Octets → Outcome
air_call a out m = called (air_rules m (view_of a)) (aired (decode_of a) m a out) a out

-- ---- what is known of a record where no rule applies

pub record Airable (r : Record) (m : Octets) : Type 0 where
  pub free : speaks m ≡ false → r.up.count < wire_slots
  pub ring : FitRing wire_slots r.up
  pub taken : is_refused (aired_in r.ends (event_of m)) ≡ false
