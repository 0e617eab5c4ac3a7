-- What a packet on a wire is to the end that takes it.
-- Assumes nothing.
use Rattle.std.specs.Prelude.{ℕ, eqb, Some, None}
use Rattle.octets.specs.Octets.{Octets, pick}
use Rattle.packets.specs.Types.{mt_data}
use Rattle.packets.specs.declared.Header.{Header}
use Rattle.packets.specs.Packet.{Reading, read_of, payload_of}
use Rattle.packets.specs.Segments.{Segment, segment}

-- data of a connection with the credits that it carries, a segment of a control message, or nothing that an end takes
pub data Meaning : Type 0 where
  datum : ℕ → ℕ → Segment → Meaning
  control : ℕ → ℕ → ℕ → Segment → Meaning
  junk : Meaning

abbrev pub meant : Header → Segment → Meaning
meant h x = pick (eqb h.mt mt_data) (datum h.id h.credits x) (control h.mt h.id h.oid x)

abbrev pub meaning_in : Octets → Reading → Meaning
meaning_in p (Some (h, n)) = meant h (segment h.pbf (payload_of p n))
meaning_in p None = junk

unfoldable pub meaning : Octets → Meaning
meaning p = meaning_in p (read_of p)
