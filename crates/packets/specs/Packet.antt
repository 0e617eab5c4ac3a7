-- The packets of NCI 2.0 (003, 3.4; document 01, "Packets"): three octets of header and the payload.
-- Assumes nothing.
use Rattle.std.specs.Prelude.{ℕ, ◌+◌, ◌*◌, ◌-◌, ◌/◌, ◌%◌, ◌<◌, ◌≡◌, Bool, true, false, [], ◌∷◌, length, get_or, ltb, leb, eqb, Option, Some, None}
use Rattle.octets.specs.Octets.{Octets, pick, cut, splice}
use Rattle.packets.specs.Types.{mt_data, mt_rfu}
use Rattle.packets.specs.declared.Header.{Header}

-- ---- fields to octets

-- octet 0: MT in bits 7-5, PBF in bit 4, GID or Conn ID in bits 3-0
unfoldable pub octet0 : ℕ → Bool → ℕ → ℕ
octet0 mt true id = mt % 8 * 32 + 16 + id % 16
octet0 mt false id = mt % 8 * 32 + id % 16

-- octet 1: for control packets the OID in bits 5-0, for data the credits (CR) in bits 1-0; the other bits are written 0
unfoldable pub octet1 : ℕ → ℕ → ℕ → ℕ
octet1 mt oid credits = pick (eqb mt mt_data) (credits % 4) (oid % 64)

-- a packet's octets; octet 2 is the payload's length
unfoldable pub packet_of : Header → Octets → Octets
packet_of h payload = octet0 h.mt h.pbf h.id ∷ octet1 h.mt h.oid h.credits ∷ length payload ∷ payload

-- ---- octets to fields

-- the OID that octet 1 holds: data has none
unfoldable pub oid_of : ℕ → ℕ → ℕ
oid_of mt second = pick (eqb mt mt_data) 0 (second % 64)

-- the credits that it holds: a control packet has none
unfoldable pub carried_of : ℕ → ℕ → ℕ
carried_of mt second = pick (eqb mt mt_data) (second % 4) 0

-- its other bits, in their places: no end goes by them, and what is shown of them stands in `Reserved`
unfoldable pub spare_of : ℕ → ℕ → ℕ
spare_of mt second = pick (eqb mt mt_data) (second / 4 * 4) (second / 64 * 64)

-- the header that the first two octets hold
unfoldable pub header_of : ℕ → ℕ → Header
header_of first second =
    record {
      mt = first / 32;
      pbf = eqb (first / 16 % 2) 1;
      id = first % 16;
      oid = oid_of (first / 32) second;
      credits = carried_of (first / 32) second;
      spare = spare_of (first / 32) second;
    }

-- what reading finds: the header and the length of the payload, or a packet to drop
abbrev pub Reading : Type 0
Reading = Option (Header × ℕ)

-- a packet short of its header or of its stated length, or of an RFU message type, is dropped; octets past its length are ignored
unfoldable pub read_of : Octets → Reading
read_of p =
    pick (ltb (length p) 3) None
    (pick (leb mt_rfu (get_or p 0 0 / 32)) None
    (pick (ltb (length p - 3) (get_or p 2 0)) None
    (Some (header_of (get_or p 0 0) (get_or p 1 0), get_or p 2 0))))

-- the payload of a packet, of the length that reading found
abbrev pub payload_of : Octets → ℕ → Octets
payload_of p len = cut 3 len p

-- ---- a data packet that is passed on

-- it carries n credits in the two low bits of octet 1, whatever stood there; all else is as it was
unfoldable pub carrying : ℕ → Octets → Octets
carrying n [] = []
carrying n (first ∷ []) = first ∷ []
carrying n (first ∷ second ∷ p) = first ∷ (second / 4 * 4 + n % 4) ∷ p

-- its header after it
abbrev pub credited : Header → ℕ → Header
credited h n = record { mt = h.mt; pbf = h.pbf; id = h.id; oid = h.oid; credits = n % 4; spare = h.spare }

-- ---- a packet written into a slot

-- the slot with the packet over its front; as it was where the payload is over 255 octets or the packet does not fit
unfoldable pub slot_after : Octets → Header → Octets → Octets
slot_after slot h payload =
    pick (ltb 255 (length payload)) slot
    (pick (ltb (length slot) (3 + length payload)) slot (splice slot 0 (packet_of h payload)))

-- how many octets were written; none where the slot is as it was
unfoldable pub size_after : Octets → Octets → Option ℕ
size_after slot payload =
    pick (ltb 255 (length payload)) None
    (pick (ltb (length slot) (3 + length payload)) None (Some (3 + length payload)))

-- what writing a packet into a slot answers, and the slot after it, every octet
pub record Written (slot : Octets) (h : Header) (payload : Octets) (size : Option ℕ) (after : Octets) : Type 0 where
  pub octets : after ≡ slot_after slot h payload
  pub count : size ≡ size_after slot payload

-- ---- what the round trips are about

-- a header whose fields are in range, with no spare bit set: what a writer is given
pub record Writable (h : Header) : Type 0 where
  pub mt : h.mt < mt_rfu
  pub id : h.id < 16
  pub oid : h.oid < 64
  pub data_oid : h.mt ≡ mt_data → h.oid ≡ 0
  pub credits : h.credits < 4
  pub control_credits : (h.mt ≡ mt_data → ⊥) → h.credits ≡ 0
  pub spare : h.spare ≡ 0
