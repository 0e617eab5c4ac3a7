-- The line that an outcome prints: `ev=NAME ans=N drop=D rfu=HH pkt=HEX msg=HEX`, and of Run to rest ` moves=N` behind it. All of it is read from the word that was
-- answered, and from the area and the message buffer after it.
-- Assumes nothing.
use Rattle.std.specs.Prelude.{ℕ, List, [], ◌∷◌, ◌++◌, replicate}
use Rattle.octets.specs.Octets.{Octets, pick}
use Rattle.area.specs.Map.{message_size}
use Rattle.record.specs.Layout.{bit}
use Rattle.calls.specs.Word.{number_of, answer_in, dropped_in, down_in, up_in, rfu_in, moves_in}
use Rattle.calls.specs.Outcome.{Outcome}
use Rattle.calls.specs.Packet.{handed_by, last_packets}
use Rattle.ascii.specs.Letters as letter
use Rattle.ascii.specs.Digits.{hex_of, decimal_of}
use Rattle.sheet.specs.Kinds.{Name}
use Rattle.forms.specs.Names.{text_of, is_run}
use Rattle.forms.specs.Form.{ev_label}

abbrev pub ans_label : Octets
ans_label = letter.blank ∷ letter.a ∷ letter.n ∷ letter.s ∷ letter.equals ∷ []

abbrev pub drop_label : Octets
drop_label = letter.blank ∷ letter.d ∷ letter.r ∷ letter.o ∷ letter.p ∷ letter.equals ∷ []

abbrev pub rfu_label : Octets
rfu_label = letter.blank ∷ letter.r ∷ letter.f ∷ letter.u ∷ letter.equals ∷ []

abbrev pub pkt_label : Octets
pkt_label = letter.blank ∷ letter.p ∷ letter.k ∷ letter.t ∷ letter.equals ∷ []

abbrev pub msg_label : Octets
msg_label = letter.blank ∷ letter.m ∷ letter.s ∷ letter.g ∷ letter.equals ∷ []

abbrev pub moves_label : Octets
moves_label = letter.blank ∷ letter.m ∷ letter.o ∷ letter.v ∷ letter.e ∷ letter.s ∷ letter.equals ∷ []

-- ---- the octets put on wires: the packets put down, in their order, then those put up

-- what the reader of packets hands out, each into a buffer of zeros
abbrev pub zero_buffer : ℕ → Octets
zero_buffer n = replicate message_size 0

unfoldable pub joined : List Octets → Octets
joined [] = []
joined (p ∷ ps) = p ++ joined ps

-- the last n packets of a wire
abbrev pub wire_shown : ℕ → ℕ → Octets → Octets
wire_shown wire n a = joined (last_packets a zero_buffer wire n)

abbrev pub put_by : Outcome → Octets
put_by o = wire_shown 0 (down_in o.word) o.area ++ wire_shown 1 (up_in o.word) o.area

-- a press tells moves in their place
abbrev pub put_on : Name → Outcome → Octets
put_on x o = pick (is_run x) [] (put_by o)

-- ---- the message: nothing for none, a dash for an empty one

abbrev pub message_text : List Octets → Octets
message_text [] = []
message_text ([] ∷ ms) = letter.dash ∷ []
message_text ((x ∷ m) ∷ ms) = hex_of (x ∷ m)

-- ---- the line, field by field

abbrev pub event_field : Name → Octets
event_field x = ev_label ++ text_of x

abbrev pub answer_field : ℕ → Octets
answer_field w = ans_label ++ decimal_of (number_of (answer_in w))

abbrev pub drop_field : ℕ → Octets
drop_field w = drop_label ++ decimal_of (bit (dropped_in w))

-- one octet, so two digits
abbrev pub rfu_field : ℕ → Octets
rfu_field w = rfu_label ++ hex_of (rfu_in w ∷ [])

abbrev pub packet_field : Name → Outcome → Octets
packet_field x o = pkt_label ++ hex_of (put_on x o)

abbrev pub message_field : Outcome → Octets
message_field o = msg_label ++ message_text (handed_by o)

-- how many moves, of a press alone
abbrev pub moves_field : Name → ℕ → Octets
moves_field x n = pick (is_run x) (moves_label ++ decimal_of n) []

abbrev pub line_of : Name → Outcome → Octets
line_of x o =
    event_field x
    ++ answer_field o.word
    ++ drop_field o.word
    ++ rfu_field o.word
    ++ packet_field x o
    ++ message_field o
    ++ moves_field x (moves_in o.word)
