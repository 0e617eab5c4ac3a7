-- reply on octets: the next segment of the endpoint's message goes up on connection 0, with the credits that it carries.
-- Assumes nothing.
use Rattle.std.specs.Prelude.{ℕ, ◌<◌, ◌≡◌, true, false}
use Rattle.octets.specs.Octets.{Octets, cut, splice}
use Rattle.packets.specs.Segments.{Segment, segment_at, segment_packet}
use Rattle.packets.specs.Headers.{data_header}
use Rattle.calls.specs.Kinds.{Hand, Record}
use Rattle.state.specs.Conn as conn
use Rattle.state.specs.Conn.{hand_after, carried_by, paid_side}
use Rattle.area.specs.Map.{payload_size, wire_slots, up_at, endpoint_at}
use Rattle.area.specs.Ring.{free_at, put_into}
use Rattle.record.specs.Reading.{decode_of}
use Rattle.record.specs.Claims.{saved}
use Rattle.record.specs.Fit.{FitRing, FitHand}
use Rattle.record.specs.Plan.{with_up, with_conns, with_endpoint}
use Rattle.views.specs.View.{view_of}
use Rattle.model.specs.calls.Reply.{reply_rules}
use Rattle.calls.specs.Word.{word_of}
use Rattle.calls.specs.Outcome.{Outcome, outcome, called}
use Rattle.calls.specs.calls.Consume.{controller_side}

-- the endpoint's message in hand
abbrev pub endpoint_hand : Record → Hand
endpoint_hand r = r.ends.endpoint

-- ---- the record after it

-- what the packet carries is no longer owed
abbrev pub replied_conns : Record → Record
replied_conns r = with_conns (conn.with_controller r.ends.conns 0 (paid_side (controller_side r 0))) r

abbrev pub replied_record : Record → Record
replied_record r = with_up (put_into r.up) (with_endpoint (hand_after payload_size (endpoint_hand r)) (replied_conns r))

-- ---- the area after it

-- the segment that goes, as long as a payload can be
abbrev pub replied_segment : Record → Octets → Segment
replied_segment r a = segment_at payload_size (cut endpoint_at (endpoint_hand r).len a) (endpoint_hand r).at

abbrev pub replied_packet : Record → Octets → Octets
replied_packet r a = segment_packet (data_header 0 (carried_by (controller_side r 0))) (replied_segment r a)

abbrev pub replied_slot : Record → Octets → Octets
replied_slot r a = splice a (free_at up_at wire_slots r.up) (replied_packet r a)

-- one packet is put on the up wire
abbrev pub replied_word : ℕ
replied_word = word_of false false 0 0 1

abbrev pub replied : Record → Octets → Octets → Outcome
replied r a out = outcome replied_word (saved (replied_slot r a) (replied_record r)) out

unfoldable pub reply_call : Octets → Octets → Outcome
reply_call a out = called (reply_rules (view_of a)) (replied (decode_of a) a out) a out

-- ---- what is known of a record where no rule applies

pub record Replyable (r : Record) : Type 0 where
  pub free : r.up.count < wire_slots
  pub ring : FitRing wire_slots r.up
  pub full : (endpoint_hand r).full ≡ true
  pub hand : FitHand (endpoint_hand r)
