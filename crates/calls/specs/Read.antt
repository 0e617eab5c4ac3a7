-- A packet that is read and nothing else, as going up, for lecturers who show its reserved bits: its octets are given, and no area and no
-- buffer. It is none of the twelve calls, and knows no ends: a command is read like any other packet.
-- Assumes nothing.
use Rattle.std.specs.Prelude.{ℕ, ◌≡◌, Bool, true, false, length, ltb, Some, None}
use Rattle.octets.specs.Octets.{Octets, pick}
use Rattle.octets.specs.Octal.{Octal}
use Rattle.packets.specs.Packet.{read_of}
use Rattle.packets.specs.Reserved.{rfu_of}
use Rattle.calls.specs.Kinds.{Reading}
use Rattle.calls.specs.Kinds.way.{Up}
use Rattle.area.specs.Map.{slot_size}
use Rattle.model.specs.Effects.{Result, taken, refused}
use Rattle.calls.specs.Word.{word_of, word_telling, answer_in, dropped_in, handed_in, down_in, up_in, rfu_in}

-- what is found: an answer, the drop flag, reserved bits
pub record Found : Type 0 where
  pub answer : Result
  pub dropped : Bool
  pub rfu : ℕ

abbrev pub found_in : Reading → Found
found_in (Some (h, n)) = record { answer = taken; dropped = false; rfu = rfu_of Up h }
found_in None = record { answer = taken; dropped = true; rfu = 0 }

-- no packet is longer than a slot: more octets are outside the limit
unfoldable pub found_of : Octets → Found
found_of p = pick (ltb slot_size (length p)) (record { answer = refused 3; dropped = false; rfu = 0 }) (found_in (read_of p))

-- ---- its word

abbrev pub word_by : Result → Bool → ℕ → ℕ
word_by taken d n = word_telling n (word_of d false 0 0 0)
word_by (refused k) d n = k

abbrev pub found_word : Found → ℕ
found_word f = word_by f.answer f.dropped f.rfu

abbrev pub read_call : Octets → ℕ
read_call p = found_word (found_of p)

-- it says what was found; no packet put, no message
pub record Says (w : ℕ) (f : Found) : Type 0 where
  pub answers : answer_in w ≡ f.answer
  pub drops : dropped_in w ≡ f.dropped
  pub tells : rfu_in w ≡ f.rfu
  pub hands : handed_in w ≡ false
  pub puts_down : down_in w ≡ 0
  pub puts_up_law : up_in w ≡ 0

-- of octets, which the type of a slice says of all its numbers
abbrev pub ReadSays : Type 0
ReadSays = (p : Octets) → Octal p → Says (read_call p) (found_of p)
