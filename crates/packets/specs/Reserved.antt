-- The reserved bits (RFU) of octet 1 that a sender left at 1 (003, 3.4.2 and 3.4.3): senders write 0 there (L828), receivers ignore them (L829),
-- and reading shows them.
-- Assumes nothing.
use Rattle.std.specs.Prelude.{ℕ, zero, suc, ◌+◌, ◌*◌, ◌-◌, ◌/◌, ◌%◌, ◌<◌, ◌≡◌, ◌∷◌, ◌++◌, length, get_or, take, eqb, Some, None}
use Rattle.octets.specs.Octets.{Octets, pick}
use Rattle.octets.specs.Octal.{Octal}
use Rattle.packets.specs.Types.{mt_data}
use Rattle.packets.specs.declared.Header.{Header}
use Rattle.packets.specs.declared.Way.{Way}
use Rattle.packets.specs.declared.Way.TheVariants.{Down, Up}
use Rattle.packets.specs.Packet.{Reading, octet0, octet1, read_of, payload_of, Writable}

-- ---- which bits they are

-- of data all but the credits (CR); going down data carries none, and these two are reserved as well
abbrev pub data_mask : Way → ℕ
data_mask Down = 0xFF
data_mask Up = 0xFC

-- of control packets all but the OID, whichever way they go
abbrev pub rfu_mask : Way → ℕ → ℕ
rfu_mask way mt = pick (eqb mt mt_data) (data_mask way) 0xC0

-- ---- what reading shows

-- the reserved bits at 1, in their places, of a header that was read: going down those in the place of the credits with the others
abbrev pub rfu_of : Way → Header → ℕ
rfu_of Down h = h.spare / 4 * 4 + h.credits % 4
rfu_of Up h = h.spare

-- a packet that is dropped shows none
abbrev pub rfu_by : Way → Reading → ℕ
rfu_by way (Some (h, n)) = rfu_of way h
rfu_by way None = 0

-- ---- what is proved of it

unfoldable pub bit_value : ℕ → ℕ
bit_value zero = 1
bit_value (suc k) = 2 * bit_value k

abbrev pub bit_at : ℕ → ℕ → ℕ
bit_at k n = n / bit_value k % 2

-- the credits that a packet can carry
abbrev pub credits_going : Way → ℕ → ℕ
credits_going Down n = 0
credits_going Up n = n

-- a packet written as `packet_of` writes it, with these reserved bits at 1
unfoldable pub packet_with : Way → ℕ → Header → Octets → Octets
packet_with way rfu h payload =
    octet0 h.mt h.pbf h.id
    ∷ (octet1 h.mt h.oid (credits_going way h.credits) + rfu)
    ∷ length payload
    ∷ payload

-- octets to fields: of every packet that is read, bit by bit, the octet is octet 1 under the mask; and back: with the fields and these bits
-- the packet is written again, up to its stated length
pub record RfuRead (way : Way) (p : Octets) (h : Header) (n : ℕ) : Type 0 where
  pub octet : rfu_of way h < 256
  pub masked : (k : ℕ) → k < 8 → bit_at k (rfu_of way h) ≡ bit_at k (rfu_mask way h.mt) * bit_at k (get_or p 1 0)
  pub again : packet_with way (rfu_of way h) h (payload_of p n) ≡ take (3 + n) p

-- fields to octets: whatever bits of the mask a sender leaves at 1, the packet is read as without them, and they are shown; data going down
-- shows two of them in the place of the credits
pub record RfuWritten (way : Way) (rfu : ℕ) (h : Header) (payload rest : Octets) : Type 0 where
  pub header : Header
  pub reads : read_of (packet_with way rfu h payload ++ rest) ≡ Some (header, length payload)
  pub told : rfu_of way header ≡ rfu
  pub mt : header.mt ≡ h.mt
  pub pbf : header.pbf ≡ h.pbf
  pub id : header.id ≡ h.id
  pub oid : header.oid ≡ h.oid
  pub credits : credits_going way header.credits ≡ credits_going way h.credits

pub record Rfu : Type 0 where
  pub read : (way : Way) (p : Octets) (h : Header) (n : ℕ) → Octal p → read_of p ≡ Some (h, n) → RfuRead way p h n
  -- bits of the mask alone: a multiple of its lowest
  pub written : (way : Way) (rfu : ℕ) (h : Header) (payload rest : Octets) → Writable h → rfu < 256 → rfu % (256 - rfu_mask way h.mt) ≡ 0
      → RfuWritten way rfu h payload rest
