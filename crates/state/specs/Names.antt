-- The standard's numbers under its names, by its tables. Octets of 003 that have no name there stand as octets where they are used.
-- Assumes nothing.
use Rattle.std.specs.Prelude.{ℕ}

-- ---- GIDs and OIDs (003, Table 139)

abbrev pub gid_core : ℕ
gid_core = 0

abbrev pub gid_rf : ℕ
gid_rf = 1

-- of GID CORE

abbrev pub oid_reset : ℕ
oid_reset = 0

abbrev pub oid_init : ℕ
oid_init = 1

abbrev pub oid_set_config : ℕ
oid_set_config = 2

abbrev pub oid_get_config : ℕ
oid_get_config = 3

abbrev pub oid_conn_create : ℕ
oid_conn_create = 4

abbrev pub oid_conn_close : ℕ
oid_conn_close = 5

abbrev pub oid_conn_credits : ℕ
oid_conn_credits = 6

abbrev pub oid_generic_error : ℕ
oid_generic_error = 7

-- of GID RF

abbrev pub oid_discover : ℕ
oid_discover = 3

abbrev pub oid_select : ℕ
oid_select = 4

abbrev pub oid_activated : ℕ
oid_activated = 5

abbrev pub oid_deactivate : ℕ
oid_deactivate = 6

-- ---- statuses (003, Table 129)

abbrev pub status_ok : ℕ
status_ok = 0x00

abbrev pub rejected : ℕ
rejected = 0x01

abbrev pub syntax_error : ℕ
syntax_error = 0x05

abbrev pub semantic_error : ℕ
semantic_error = 0x06

abbrev pub invalid_param : ℕ
invalid_param = 0x09

abbrev pub size_exceeded : ℕ
size_exceeded = 0x0A

abbrev pub already_started : ℕ
already_started = 0xA0

abbrev pub activation_failed : ℕ
activation_failed = 0xA1

-- ---- RF technology and mode (003, Table 131); active poll and active listen end the runs of polling and listening modes

abbrev pub poll_active : ℕ
poll_active = 0x03

abbrev pub poll_v : ℕ
poll_v = 0x06

abbrev pub listen_a : ℕ
listen_a = 0x80

abbrev pub listen_b : ℕ
listen_b = 0x81

abbrev pub listen_f : ℕ
listen_f = 0x82

abbrev pub listen_active : ℕ
listen_active = 0x83

-- ---- interfaces and destinations (003, Tables 134 and 13)

abbrev pub frame_interface : ℕ
frame_interface = 0x01

abbrev pub loopback : ℕ
loopback = 0x01

-- ---- discovery notifications (003, Table 66)

abbrev pub more_follow : ℕ
more_follow = 2

-- ---- deactivation: types and reasons (003, Tables 79 to 81)

abbrev pub to_idle : ℕ
to_idle = 0x00

abbrev pub to_sleep : ℕ
to_sleep = 0x01

abbrev pub to_sleep_af : ℕ
to_sleep_af = 0x02

abbrev pub to_discovery : ℕ
to_discovery = 0x03

abbrev pub host_request : ℕ
host_request = 0x00

abbrev pub endpoint_request : ℕ
endpoint_request = 0x01

abbrev pub link_loss : ℕ
link_loss = 0x02
