-- The map of the area: where wires, stores, messages, runs and the record lie in its 36,864 octets (document 01, "Profile,
-- record and area"). Each part starts where the one before it ends. A place is a connection's place in the record's array,
-- 0 to 4 (Conn, `place_of`). What cites these names has no number of its own; src/map.rt has the same names in the code.
-- Assumes nothing.
use Rattle.std.specs.Prelude.{ℕ, ◌+◌, ◌-◌, ◌*◌, ◌≡◌}
use Rattle.state.specs.Runs.{data_limit, control_limit}

-- ---- sizes

abbrev pub area_size : ℕ
area_size = 36864

-- the record rests in the last of the area's octets
abbrev pub record_room : ℕ
record_room = 512

abbrev pub payload_size : ℕ
payload_size = 255

-- a slot holds the longest packet: three octets of header and the payload
abbrev pub slot_size : ℕ
slot_size = 3 + payload_size

abbrev pub wire_slots : ℕ
wire_slots = 16

abbrev pub store_slots : ℕ
store_slots = 8

abbrev pub wire_size : ℕ
wire_size = wire_slots * slot_size

abbrev pub store_size : ℕ
store_size = store_slots * slot_size

-- the longest message, and the longest control message
abbrev pub message_size : ℕ
message_size = data_limit

abbrev pub control_size : ℕ
control_size = control_limit

-- places of connections
abbrev pub places : ℕ
places = 5

-- ---- offsets

-- the two wires
abbrev pub down_at : ℕ
down_at = 0

abbrev pub up_at : ℕ
up_at = down_at + wire_size

-- the controller's store of a place
abbrev pub stores_at : ℕ
stores_at = up_at + wire_size

abbrev pub store_at : ℕ → ℕ
store_at place = place * store_size + stores_at

-- the message in hand at the host, of a place
abbrev pub hands_at : ℕ
hands_at = stores_at + places * store_size

abbrev pub hand_at : ℕ → ℕ
hand_at place = place * message_size + hands_at

-- the endpoint's message
abbrev pub endpoint_at : ℕ
endpoint_at = hands_at + places * message_size

-- messages in reassembly at the host and at the controller, of a place
abbrev pub host_runs_at : ℕ
host_runs_at = endpoint_at + message_size

abbrev pub host_run_at : ℕ → ℕ
host_run_at place = place * message_size + host_runs_at

abbrev pub controller_runs_at : ℕ
controller_runs_at = host_runs_at + places * message_size

abbrev pub controller_run_at : ℕ → ℕ
controller_run_at place = place * message_size + controller_runs_at

-- the control runs: at the controller, and at the host
abbrev pub asking_at : ℕ
asking_at = controller_runs_at + places * message_size

abbrev pub hearing_at : ℕ
hearing_at = asking_at + control_size

-- from here to the record, octets are left over
abbrev pub spare_at : ℕ
spare_at = hearing_at + control_size

abbrev pub record_at : ℕ
record_at = area_size - record_room

-- ---- the sum

-- parts by place end where the next part starts, and what is left over ends where the record starts
pub record Sum : Type 0 where
  pub stores : store_at places ≡ hand_at 0
  pub hands : hand_at places ≡ endpoint_at
  pub host_runs : host_run_at places ≡ controller_run_at 0
  pub controller_runs : controller_run_at places ≡ asking_at
  pub spare : spare_at + 882 ≡ record_at
  pub record_octets_law : record_at + record_room ≡ area_size
