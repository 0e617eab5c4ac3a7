-- Where the record stands in the area, each part in the record, and each struct's parts in the struct. Parts follow one
-- another with no octet between them. What cites these names has no number of its own; src/places.rt has the same names in
-- the code.
-- Assumes nothing.
use Rattle.std.specs.Prelude.{ℕ, ◌+◌, ◌*◌, ◌/◌, ◌%◌, Bool, true, false, ◌≡◌, refl}
use Rattle.octets.specs.Octets.{Octets, cut, splice}
use Rattle.area.specs.Map.{record_at, record_room, places}
use Rattle.config.specs.Table.{config_size}

-- ---- the area (document 01: "the record rests in the last 512 of those octets")

-- the octets in which the record rests: octet k of them is octet 36,352 + k of the area
unfoldable pub record_octets : Octets → Octets
record_octets area = cut record_at record_room area

-- ---- the structs: how many octets each has (Size), and where what is more than one octet, or a tag, stands in it (Part).
-- All else is one octet for each field, in the order of the struct.

-- the profile, in the order of its eleven octets: control payload; payload and credits of 2, of 3, of 4, of 5; payload and credits of 0
abbrev pub profile_size : ℕ
profile_size = 11

-- how far a message is: its length (two octets), lost
abbrev pub lost_part : ℕ
lost_part = 2

abbrev pub progress_size : ℕ
progress_size = lost_part + 1

-- a control run: MT, GID, OID, how far it is
abbrev pub run_part : ℕ
run_part = 3

abbrev pub control_run_size : ℕ
control_run_size = run_part + progress_size

-- a message in hand: full, length (two octets), position (two octets)
abbrev pub hand_size : ℕ
hand_size = 5

-- a ring: head, count
abbrev pub ring_size : ℕ
ring_size = 2

-- the host: size, pending (0 none, 1 a command), GID, OID, aim
abbrev pub pending_part : ℕ
pending_part = 1

abbrev pub host_size : ℕ
host_size = pending_part + 4

-- eight pairs of ID and protocol, their count
abbrev pub pairs_room : ℕ
pairs_room = 8

abbrev pub pairs_size : ℕ
pairs_size = pairs_room * 2 + 1

-- the controller: phase, ID given, RF state (four octets, of which the second says of a selection whether there is one), pairs
abbrev pub rf_part : ℕ
rf_part = 2

abbrev pub selected_part : ℕ
selected_part = rf_part + 1

abbrev pub pairs_part : ℕ
pairs_part = rf_part + 4

abbrev pub controller_size : ℕ
controller_size = pairs_part + pairs_size

-- a connection at the host: open, payload, grant, held, message in hand, run
abbrev pub hand_part : ℕ
hand_part = 4

abbrev pub host_run_part : ℕ
host_run_part = hand_part + hand_size

abbrev pub host_side_size : ℕ
host_side_size = host_run_part + progress_size

-- a connection at the controller: open, grant, owed, store, run
abbrev pub store_part : ℕ
store_part = 3

abbrev pub controller_run_part : ℕ
controller_run_part = store_part + ring_size

abbrev pub controller_side_size : ℕ
controller_side_size = controller_run_part + progress_size

-- a connection: at the host, at the controller
abbrev pub counts_size : ℕ
counts_size = host_side_size + controller_side_size

-- the connections, by place
abbrev pub counts_part : ℕ → ℕ
counts_part place = place * counts_size

abbrev pub conns_size : ℕ
conns_size = counts_part places

-- ---- the record: each part starts where the one before it ends

abbrev pub profile_place : ℕ
profile_place = 0

abbrev pub host_place : ℕ
host_place = profile_place + profile_size

abbrev pub hearing_place : ℕ
hearing_place = host_place + host_size

abbrev pub controller_place : ℕ
controller_place = hearing_place + control_run_size

abbrev pub asking_place : ℕ
asking_place = controller_place + controller_size

abbrev pub endpoint_place : ℕ
endpoint_place = asking_place + control_run_size

abbrev pub conns_place : ℕ
conns_place = endpoint_place + hand_size

abbrev pub down_place : ℕ
down_place = conns_place + conns_size

abbrev pub up_place : ℕ
up_place = down_place + ring_size

-- what is past this in the 512 octets a record's writer leaves alone
abbrev pub record_end : ℕ
record_end = up_place + ring_size

pub sum_of_sizes : record_end ≡ 160
sum_of_sizes = refl

-- ---- behind it, the configuration: the values of the parameters as octets, which only the calls that set or show one touch

-- where it starts in the area
abbrev pub config_at : ℕ
config_at = record_at + record_end

-- the configuration of an area
unfoldable pub config_octets : Octets → Octets
config_octets area = cut config_at config_size area

-- the area with the configuration b
abbrev pub configured : Octets → Octets → Octets
configured area b = splice area config_at b

-- ---- parts that are stored together

-- the profile, the host and what it hears
abbrev pub front_size : ℕ
front_size = controller_place

-- what the controller is asked, and the endpoint's message
abbrev pub middle_size : ℕ
middle_size = control_run_size + hand_size

-- both wires
abbrev pub wires_size : ℕ
wires_size = ring_size + ring_size

-- ---- numbers and yes or no

-- lengths and positions of messages have two octets, high first
abbrev pub high : ℕ → ℕ
high n = n / 256 % 256

abbrev pub low : ℕ → ℕ
low n = n % 256

unfoldable pub bit : Bool → ℕ
bit true = 1
bit false = 0
