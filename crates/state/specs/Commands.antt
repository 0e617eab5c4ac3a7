-- The commands that the bench knows, by GID and OID.
-- Assumes nothing.
use Rattle.std.specs.Prelude.{ℕ, ◌%◌, eqb, length, get_or}
use Rattle.octets.specs.Octets.{Octets, pick}
use Rattle.state.specs.Kinds.{Command}
use Rattle.state.specs.Names.{gid_core, gid_rf, oid_reset, oid_init, oid_conn_create, oid_conn_close, oid_set_config, oid_get_config, oid_discover, oid_select, oid_deactivate}
use Rattle.state.specs.Kinds.command.{Reset, Init, ConnCreate, ConnClose, Discover, Select, Deactivate, Unknown, SetConfig, GetConfig}

unfoldable pub command_of : ℕ → ℕ → Command
command_of gid oid =
    pick (eqb gid gid_core)
    (pick (eqb oid oid_reset) Reset
    (pick (eqb oid oid_init) Init
    (pick (eqb oid oid_conn_create) ConnCreate
    (pick (eqb oid oid_conn_close) ConnClose
    (pick (eqb oid oid_set_config) SetConfig
    (pick (eqb oid oid_get_config) GetConfig Unknown))))))
    (pick (eqb gid gid_rf)
    (pick (eqb oid oid_discover) Discover
    (pick (eqb oid oid_select) Select
    (pick (eqb oid oid_deactivate) Deactivate Unknown)))
    Unknown)

-- the connection that CORE_CONN_CLOSE names: the low four bits of its first octet. One without octets names none, and 1 stands for that: no
-- connection has this ID
abbrev pub aim_in : Octets → ℕ
aim_in m = pick (eqb (length m) 0) 1 (get_or m 0 0 % 16)
