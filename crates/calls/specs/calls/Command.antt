-- command on octets: all segments of a command go on the down wire.
-- Assumes nothing.
use Rattle.std.specs.Prelude.{ℕ, ◌+◌, ◌≤◌, false, List, length}
use Rattle.octets.specs.Octets.{Octets}
use Rattle.packets.specs.Segments.{segments, packets_of}
use Rattle.packets.specs.Headers.{control_header}
use Rattle.calls.specs.Kinds.{Ring, Record}
use Rattle.state.specs.Profile.{least_size}
use Rattle.dh.specs.Sending.{commanded_host}
use Rattle.area.specs.Map.{payload_size, wire_slots, down_at}
use Rattle.area.specs.Movers.{puts_all}
use Rattle.record.specs.Reading.{decode_of}
use Rattle.record.specs.Claims.{saved}
use Rattle.record.specs.Fit.{FitRing}
use Rattle.record.specs.Plan.{with_down, with_host_state}
use Rattle.views.specs.View.{view_of}
use Rattle.model.specs.calls.Command.{command_rules}
use Rattle.calls.specs.Word.{word_of}
use Rattle.calls.specs.Outcome.{Outcome, outcome, called}

-- how many segments a command has, cut at the host's size
abbrev pub commanded_count : Record → Octets → ℕ
commanded_count r m = length (segments r.ends.host.size m)

-- ---- the record after it

abbrev pub commanded_ring : Ring → ℕ → Ring
commanded_ring k n = record { head = k.head; count = k.count + n }

abbrev pub commanded_record : Record → ℕ → ℕ → Octets → Record
commanded_record r gid oid m = with_down (commanded_ring r.down (commanded_count r m)) (with_host_state (commanded_host r.ends.host gid oid m) r)

-- ---- the area after it

abbrev pub commanded_packets : Record → ℕ → ℕ → Octets → List Octets
commanded_packets r gid oid m = packets_of (control_header 1 gid oid) r.ends.host.size m

-- one after the other in the free slots of the down wire
abbrev pub commanded_slots : Record → ℕ → ℕ → Octets → Octets → Octets
commanded_slots r gid oid m a = puts_all down_at a r.down (commanded_packets r gid oid m)

-- as many packets are put on the down wire
abbrev pub commanded_word : Record → Octets → ℕ
commanded_word r m = word_of false false 0 (commanded_count r m) 0

abbrev pub commanded : Record → ℕ → ℕ → Octets → Octets → Octets → Outcome
commanded r gid oid m a out = outcome (commanded_word r m) (saved (commanded_slots r gid oid m a) (commanded_record r gid oid m)) out

unfoldable pub command_call : Octets → Octets → ℕ → ℕ → Octets → Outcome
command_call a out gid oid m = called (command_rules gid oid m (view_of a)) (commanded (decode_of a) gid oid m a out) a out

-- ---- what is known of a record where no rule applies

pub record Commandable (r : Record) (g o : ℕ) (m : Octets) : Type 0 where
  pub gid : g ≤ 15
  pub oid : o ≤ 63
  pub short : length m ≤ payload_size
  pub free : r.down.count + commanded_count r m ≤ wire_slots
  pub ring : FitRing wire_slots r.down
  pub size : least_size ≤ r.ends.host.size
