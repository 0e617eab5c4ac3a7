-- Reassembly of messages from segments, with a limit on their length: 1,024 octets for data, 255 for control (document 01, "Packets").
-- Assumes nothing.
use Rattle.std.specs.Prelude.{ℕ, ◌+◌, ◌≤◌, ◌<◌, ◌≡◌, Bool, true, List, [], ◌∷◌, ◌++◌, length, ltb}
use Rattle.octets.specs.Octets.{Octets, pick}
use Rattle.packets.specs.Segments.{Segment, more, last, body, parse, left}

-- a run of segments in reassembly: the octets so far, or a run that went past the limit and is lost whole
pub data Run : Type 0 where
  run : Octets → Run
  lost : Run

-- ---- one segment

-- the run after a segment
abbrev pub grown : ℕ → Run → Segment → Run
grown limit (run r) (more b) = pick (ltb limit (length r + length b)) lost (run (r ++ b))
grown limit lost (more b) = lost
grown limit (run r) (last b) = run []
grown limit lost (last b) = run []

-- the message that a segment finishes, or none
abbrev pub finished : ℕ → Run → Segment → List Octets
finished limit (run r) (more b) = []
finished limit lost (more b) = []
finished limit (run r) (last b) = pick (ltb limit (length r + length b)) [] ((r ++ b) ∷ [])
finished limit lost (last b) = []

-- the drop flag: a run past the limit is flagged from the segment that passes it up to its last
abbrev pub flagged : ℕ → Run → Segment → Bool
flagged limit (run r) (more b) = ltb limit (length r + length b)
flagged limit (run r) (last b) = ltb limit (length r + length b)
flagged limit lost (more b) = true
flagged limit lost (last b) = true

-- ---- a list of segments

unfoldable pub grown_by : ℕ → Run → List Segment → Run
grown_by limit q [] = q
grown_by limit q (s ∷ ss) = grown_by limit (grown limit q s) ss

unfoldable pub finished_by : ℕ → Run → List Segment → List Octets
finished_by limit q [] = []
finished_by limit q (s ∷ ss) = finished limit q s ++ finished_by limit (grown limit q s) ss

unfoldable pub flagged_by : ℕ → Run → List Segment → List Bool
flagged_by limit q [] = []
flagged_by limit q (s ∷ ss) = flagged limit q s ∷ flagged_by limit (grown limit q s) ss

-- for each segment, whether the octets up to its end, n of them before it, are past the limit
unfoldable pub past : ℕ → ℕ → List Segment → List Bool
past limit n [] = []
past limit n (s ∷ ss) = ltb limit (n + length (body s)) ∷ past limit (n + length (body s)) ss

-- ---- what the claim on messages stands on

-- every message is within the limit
unfoldable pub Fit : ℕ → List Octets → Type 0
Fit limit [] = Unit {0}
Fit limit (m ∷ ms) = (length m ≤ limit) × Fit limit ms

-- the messages `out` were handed out of those `taken`, and the segments under way, ss, hold exactly the others
pub record Flow (limit : ℕ) (q : Run) (ss : List Segment) (taken out : List Octets) : Type 0 where
  pub so_far : Octets
  pub kept : q ≡ run so_far
  pub rest : taken ≡ out ++ parse so_far ss
  pub whole : left so_far ss ≡ []
  pub fits : Fit limit (parse so_far ss)

-- `out` is the first messages of `taken`
pub record Prefix (out taken : List Octets) : Type 0 where
  pub others : List Octets
  pub split : taken ≡ out ++ others

-- what reassembly makes of the segments of a message
pub record Reassembled (limit : ℕ) (ss : List Segment) (m : Octets) : Type 0 where
  -- a message within the limit is handed out, that message and no other
  pub handed : length m ≤ limit → finished_by limit (run []) ss ≡ m ∷ []
  -- a longer one is dropped whole
  pub dropped : limit < length m → finished_by limit (run []) ss ≡ []
  -- and flagged from the segment on that passes the limit
  pub flags : flagged_by limit (run []) ss ≡ past limit 0 ss
  -- in either case the next message starts anew
  pub anew : grown_by limit (run []) ss ≡ run []
