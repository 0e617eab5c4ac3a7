-- What report reads of an area: the record, the header of every filled slot of the wires, and three messages on the up wire. Payloads of other packets make no
-- difference to it, and its five octets are those that it gave while it heard every message.
-- Assumes nothing.
use Rattle.std.specs.Prelude.{ℕ, ◌+◌, ◌%◌, ◌≤◌, ◌<◌, ◌≡◌, length, get_or, Option, None}
use Rattle.octets.specs.Octets.{Octets, splice}
use Rattle.packets.specs.Packet.{read_of}
use Rattle.state.specs.declared.kinds.Ring.{Ring}
use Rattle.area.specs.Map.{area_size, wire_slots, down_at, up_at, record_at}
use Rattle.area.specs.Ring.{slot_at, slot_packet}
use Rattle.wires.specs.declared.up.Inside.{Inside}
use Rattle.wires.specs.Tally.{credits_up}
use Rattle.wires.specs.Counted.{inside_in}
use Rattle.record.specs.Reading.{decode_of}
use Rattle.views.specs.View.{view_of}
use Rattle.model.specs.calls.Report.{five_of, report_rules}
use Rattle.calls.specs.Outcome.{Outcome, outcome, called}
use Rattle.calls.specs.calls.Report.{reported_word, report_call}

-- ---- the slots of a wire

-- slot i is filled: it is one of the ring's count slots from head on, which go round after the last
pub record Filled (r : Ring) (i : ℕ) : Type 0 where
  pub nth : ℕ
  pub among : nth < r.count
  pub here : i ≡ (r.head + nth) % wire_slots

-- octet k of the area is one of the three header octets of slot i of the wire at base
pub record InHeader (base i k : ℕ) : Type 0 where
  pub from : slot_at base i ≤ k
  pub to : k < slot_at base i + 3

-- octet k is a payload octet of the packet in slot i: it stands behind the header and before the packet's end
pub record InPayload (base : ℕ) (a : Octets) (i k : ℕ) : Type 0 where
  pub from : slot_at base i + 3 ≤ k
  pub to : k < slot_at base i + length (slot_packet base a i)

-- what the header of the packet in slot i says is inside: one of the three messages, or none
abbrev pub inside_at : ℕ → Octets → ℕ → Option Inside
inside_at base a i = inside_in (read_of (slot_packet base a i))

-- ---- what report reads

-- octet k is read: it is the record's, or a filled slot's header has it, or a message on the up wire that is one of the three
pub data Reads (a : Octets) (k : ℕ) : Type 0 where
  in_record : record_at ≤ k → k < area_size → Reads a k
  in_down : (i : ℕ) → Filled (decode_of a).down i → InHeader down_at i k → Reads a k
  in_up : (i : ℕ) → Filled (decode_of a).up i → InHeader up_at i k → Reads a k
  in_message : (i : ℕ) → Filled (decode_of a).up i → (inside_at up_at a i ≡ None → ⊥) → InPayload up_at a i k → Reads a k

-- the same answer: the word, and the message buffer after the call
pub record SameAnswer (x y : Outcome) : Type 0 where
  pub word : x.word ≡ y.word
  pub out : x.out ≡ y.out

-- no other octet is read: areas of one length that agree on those that are get the same answer, from report of every number
abbrev pub ReadsAlone : Type 0
ReadsAlone =
    (a b out : Octets) (c : ℕ) → length a ≡ length b → ((k : ℕ) → Reads a k → get_or a k 0 ≡ get_or b k 0)
    → SameAnswer (report_call a out c) (report_call b out c)

-- ---- other packets' payloads

-- octet k is a payload octet of a packet that is none of the three, in a filled slot of the wire at base
pub record InOther (base : ℕ) (r : Ring) (a : Octets) (k : ℕ) : Type 0 where
  pub slot : ℕ
  pub filled : Filled r slot
  pub payload : InPayload base a slot k
  pub other : inside_at base a slot ≡ None

-- areas of one length that agree outside those octets get the same answer, from report of every number, whether calls made them or not
abbrev pub HeadersAlone : Type 0
HeadersAlone =
    (a b out : Octets) (c : ℕ) → length a ≡ length b
    → ((k : ℕ) → (InOther down_at (decode_of a).down a k → ⊥) → (InOther up_at (decode_of a).up a k → ⊥) → get_or a k 0 ≡ get_or b k 0)
    → SameAnswer (report_call a out c) (report_call b out c)

-- ---- the report of before

-- it counted on the up wire what every whole message says
abbrev pub report_before : Octets → Octets → ℕ → Outcome
report_before a out c =
    called (report_rules c (view_of a)) (outcome reported_word a (splice out 0 (five_of c (view_of a) (credits_up c (view_of a).up)))) a out

-- on every area, whether calls made it or not
abbrev pub SameAsBefore : Type 0
SameAsBefore = (a out : Octets) (c : ℕ) → report_call a out c ≡ report_before a out c
