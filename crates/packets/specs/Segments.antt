-- A message is cut into segments at a payload size, and a reader joins segments to messages again (003, 3.5; document 01, "Packets").
-- Assumes nothing.
use Rattle.std.specs.Prelude.{ℕ, zero, suc, ◌+◌, ◌*◌, ◌-◌, ◌/◌, ◌<◌, max, ◌≡◌, Bool, true, false, List, [], ◌∷◌, ◌++◌, map, length, get_or, take, drop, ltb}
use Rattle.octets.specs.Octets.{Octets, pick, cut}
use Rattle.packets.specs.declared.Header.{Header}
use Rattle.packets.specs.Packet.{packet_of}

-- a segment of a message: one that is followed by more, or the last
pub data Segment : Type 0 where
  more : Octets → Segment
  last : Octets → Segment

abbrev pub segment : Bool → Octets → Segment
segment true b = more b
segment false b = last b

abbrev pub body : Segment → Octets
body (more b) = b
body (last b) = b

-- the packet boundary flag
abbrev pub flag : Segment → Bool
flag (more b) = true
flag (last b) = false

-- ---- a message to segments

-- at most f + 1 segments
unfoldable pub segments_within : ℕ → ℕ → Octets → List Segment
segments_within zero size m = last m ∷ []
segments_within (suc f) size m =
    pick (ltb size (length m)) (more (take size m) ∷ segments_within f size (drop size m)) (last m ∷ [])

-- segments are full but the last; a message that fits one segment, the empty one too, is one segment
unfoldable pub segments : ℕ → Octets → List Segment
segments size m = segments_within (length m) size m

-- the segment of m that starts at an offset: a part of m, with more to follow where that part ends before m does
abbrev pub segment_at : ℕ → Octets → ℕ → Segment
segment_at size m at = segment (ltb (at + size) (length m)) (cut at size m)

-- ---- segments to packets

abbrev pub marked : Header → Bool → Header
marked h b = record { mt = h.mt; pbf = b; id = h.id; oid = h.oid; credits = h.credits; spare = h.spare }

-- the packet of a segment, with the header of its message
abbrev pub segment_packet : Header → Segment → Octets
segment_packet h s = packet_of (marked h (flag s)) (body s)

-- the packets of a message
abbrev pub packets_of : Header → ℕ → Octets → List Octets
packets_of h size m = map (segment_packet h) (segments size m)

-- ---- segments to messages

-- the messages that a reader with r in reassembly finishes on reading the segments
unfoldable pub parse : Octets → List Segment → List Octets
parse r [] = []
parse r (more b ∷ ss) = parse (r ++ b) ss
parse r (last b ∷ ss) = (r ++ b) ∷ parse [] ss

-- what is then in reassembly
unfoldable pub left : Octets → List Segment → Octets
left r [] = r
left r (more b ∷ ss) = left (r ++ b) ss
left r (last b ∷ ss) = left [] ss

-- ---- what holds of the segments of a message

-- the segment of index k, and an empty last one past the end
abbrev pub nth : List Segment → ℕ → Segment
nth ss k = get_or ss k (last [])

pub record SegmentFacts (size : ℕ) (m : Octets) : Type 0 where
  -- joined they are the message, and nothing is left over
  pub whole : parse [] (segments size m) ≡ m ∷ []
  pub complete : left [] (segments size m) ≡ []
  -- as many as the message needs, and one for the empty message
  pub count : length (segments size m) ≡ max 1 ((length m + (size - 1)) / size)
  -- the segment of index k starts at octet k * size
  pub each : (k : ℕ) → k < length (segments size m) → nth (segments size m) k ≡ segment_at size m (k * size)
  -- each but the last is full, and says that more follows
  pub fulls : (k : ℕ) → suc k < length (segments size m)
      → (length (body (nth (segments size m) k)) ≡ size) × (flag (nth (segments size m) k) ≡ true)
  -- the last says that none follows, and is empty only where it is the only one
  pub final : (k : ℕ) → suc k ≡ length (segments size m)
      → (flag (nth (segments size m) k) ≡ false) × (0 < k → 0 < length (body (nth (segments size m) k)))
  -- an exact multiple of the size has no empty segment after it
  pub exact : (k : ℕ) → length m ≡ suc k * size → length (segments size m) ≡ suc k
