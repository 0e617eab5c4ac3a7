-- push on octets: the next segment of the message in hand goes down, and a credit is spent if flow-controlled.
-- Assumes nothing.
use Rattle.std.specs.Prelude.{ℕ, ◌≤◌, ◌<◌, ◌≡◌, true, false}
use Rattle.octets.specs.Octets.{Octets, cut, splice}
use Rattle.packets.specs.Segments.{Segment, segment_at, segment_packet}
use Rattle.packets.specs.Headers.{data_header}
use Rattle.calls.specs.Kinds.{HostSide, Record}
use Rattle.state.specs.Conn as conn
use Rattle.state.specs.Conn.{place_of, counts_of}
use Rattle.dh.specs.Sending.{pushed_side}
use Rattle.area.specs.Map.{wire_slots, places, down_at, hand_at}
use Rattle.area.specs.Ring.{free_at, put_into}
use Rattle.record.specs.Reading.{decode_of}
use Rattle.record.specs.Claims.{saved}
use Rattle.record.specs.Fit.{FitRing, FitHand}
use Rattle.record.specs.Plan.{with_down, with_conns}
use Rattle.views.specs.View.{view_of}
use Rattle.model.specs.calls.Push.{push_rules}
use Rattle.calls.specs.Word.{word_of}
use Rattle.calls.specs.Outcome.{Outcome, outcome, called}

-- the connection at the host
abbrev pub host_side : Record → ℕ → HostSide
host_side r c = (counts_of r.ends.conns c).host

-- ---- the record after it

abbrev pub pushed_record : Record → ℕ → Record
pushed_record r c = with_down (put_into r.down) (with_conns (conn.with_host r.ends.conns c (pushed_side (host_side r c))) r)

-- ---- the area after it

-- the segment of the message in hand that goes
abbrev pub pushed_segment : Record → ℕ → Octets → Segment
pushed_segment r c a = segment_at (host_side r c).payload (cut (hand_at (place_of c)) (host_side r c).hand.len a) (host_side r c).hand.at

abbrev pub pushed_packet : Record → ℕ → Octets → Octets
pushed_packet r c a = segment_packet (data_header c 0) (pushed_segment r c a)

abbrev pub pushed_slot : Record → ℕ → Octets → Octets
pushed_slot r c a = splice a (free_at down_at wire_slots r.down) (pushed_packet r c a)

-- one packet is put on the down wire
abbrev pub pushed_word : ℕ
pushed_word = word_of false false 0 1 0

abbrev pub pushed : Record → ℕ → Octets → Octets → Outcome
pushed r c a out = outcome pushed_word (saved (pushed_slot r c a) (pushed_record r c)) out

unfoldable pub push_call : Octets → Octets → ℕ → Outcome
push_call a out c = called (push_rules c (view_of a)) (pushed (decode_of a) c a out) a out

-- ---- what is known of a record where no rule applies

pub record Pushable (r : Record) (c : ℕ) : Type 0 where
  pub place : place_of c < places
  pub free : r.down.count < wire_slots
  pub ring : FitRing wire_slots r.down
  pub opened : (host_side r c).opened ≡ true
  pub full : (host_side r c).hand.full ≡ true
  pub payload : 1 ≤ (host_side r c).payload
  pub hand : FitHand (host_side r c).hand
