-- Contents that the bench's controller writes: document 01's layouts at their exact lengths, with values inside its limits. Contents
-- never written have no effect (up under "Calls"), so the host asks one question before it listens: `written`.
-- Assumes nothing.
use Rattle.std.specs.Prelude.{ℕ, zero, suc, ◌+◌, ◌*◌, ◌-◌, Bool, true, false, ◌&&◌, ◌||◌, not, length, get_or, eqb, ltb, leb, Option, Some, None}
use Rattle.octets.specs.Octets.{Octets, pick}
use Rattle.state.specs.Names.{gid_core, gid_rf, oid_reset, oid_conn_credits, oid_generic_error, oid_discover, oid_activated, oid_deactivate, status_ok, frame_interface, to_sleep, to_discovery, host_request, endpoint_request, link_loss, activation_failed}
use Rattle.packets.specs.Types.{mt_response}
use Rattle.dh.specs.Kinds.{Command, Notice}
use Rattle.dh.specs.Kinds.command as command
use Rattle.dh.specs.Kinds.notice as notice
use Rattle.state.specs.Conn.{place_of}
use Rattle.state.specs.Commands.{command_of}
use Rattle.state.specs.Radio.{polls, listens, id_ok}
use Rattle.state.specs.Profile.{least_size, credits_ok}
unfoldable pub use Rattle.config.specs.Stored.{zeros}
use Rattle.config.specs.Written.{set_written, get_written}

-- ---- the notifications (003, Table 139)

unfoldable pub notice_of : ℕ → ℕ → Option Notice
notice_of gid oid =
    pick (eqb gid gid_core)
    (pick (eqb oid oid_reset) (Some notice.Reset)
    (pick (eqb oid oid_conn_credits) (Some notice.Credits)
    (pick (eqb oid oid_generic_error) (Some notice.GenericError) None)))
    (pick (eqb gid gid_rf)
    (pick (eqb oid oid_discover) (Some notice.Discover)
    (pick (eqb oid oid_activated) (Some notice.Activated)
    (pick (eqb oid oid_deactivate) (Some notice.Deactivate) None)))
    None)

-- ---- responses

abbrev pub status_alone : Octets → Bool
status_alone m = eqb (length m) 1 && not (eqb (get_or m 0 0) status_ok)

-- a message of one octet, this status
abbrev pub alone : ℕ → Octets → Bool
alone status m = eqb (length m) 1 && eqb (get_or m 0 0) status

abbrev pub ok_alone : Octets → Bool
ok_alone m = alone status_ok m

unfoldable pub init_written : Octets → Bool
init_written m =
    eqb (length m) 16 && zeros m 0 5 && eqb (get_or m 5 0) 0x04 && zeros m 6 2 && leb least_size (get_or m 8 0) && zeros m 9 4
    && eqb (get_or m 13 0) 0x01 && eqb (get_or m 14 0) 0x01 && zeros m 15 1

unfoldable pub create_written : Octets → Bool
create_written m =
    eqb (length m) 4 && eqb (get_or m 0 0) status_ok && leb 1 (get_or m 1 0) && credits_ok (get_or m 2 0)
    && leb 2 (get_or m 3 0) && leb (get_or m 3 0) 5

-- beside a status other than OK alone; those of the configuration commands may list parameters under the status 09 too
abbrev pub ok_written : Command → Octets → Bool
ok_written command.Reset m = ok_alone m
ok_written command.Init m = init_written m
ok_written command.ConnCreate m = create_written m
ok_written command.ConnClose m = ok_alone m
ok_written command.Discover m = ok_alone m
ok_written command.Select m = ok_alone m
ok_written command.Deactivate m = ok_alone m
ok_written command.Unknown m = false
ok_written command.SetConfig m = set_written m
ok_written command.GetConfig m = get_written m

-- ---- notifications

abbrev pub reset_written : Octets → Bool
reset_written m =
    eqb (length m) 5 && eqb (get_or m 0 0) 0x02 && leb (get_or m 1 0) 1 && eqb (get_or m 2 0) 0x20 && zeros m 3 2

-- entry i of a credit notice
abbrev pub entry_id : Octets → ℕ → ℕ
entry_id m i = get_or m (1 + 2 * i) 0

abbrev pub entry_credits : Octets → ℕ → ℕ
entry_credits m i = get_or m (2 + 2 * i) 0

abbrev pub entry_ok : Octets → ℕ → Bool
entry_ok m i = ltb (place_of (entry_id m i)) 5 && leb 1 (entry_credits m i) && leb (entry_credits m i) 8

-- the first n entries are 01's, their Conn IDs ascending
unfoldable pub entries_ok : Octets → ℕ → Bool
entries_ok m zero = true
entries_ok m (suc n) = entries_ok m n && entry_ok m n && (eqb n 0 || ltb (entry_id m (n - 1)) (entry_id m n))

unfoldable pub credits_written : Octets → Bool
credits_written m =
    leb 1 (get_or m 0 0) && leb (get_or m 0 0) 5 && eqb (length m) (1 + 2 * get_or m 0 0) && entries_ok m (get_or m 0 0)

unfoldable pub discover_written : Octets → Bool
discover_written m =
    id_ok (get_or m 0 0) && polls (get_or m 2 0) && leb (get_or m 3 0) 32 && eqb (length m) (5 + get_or m 3 0)
    && leb (get_or m (4 + get_or m 3 0) 0) 2

unfoldable pub activated_written : Octets → Bool
activated_written m =
    id_ok (get_or m 0 0) && eqb (get_or m 1 0) frame_interface && (polls (get_or m 3 0) || listens (get_or m 3 0)) && leb 1 (get_or m 4 0)
    && credits_ok (get_or m 5 0) && leb (get_or m 6 0) 32 && eqb (length m) (11 + get_or m 6 0)
    && eqb (get_or m (7 + get_or m 6 0) 0) (get_or m 3 0) && zeros m (8 + get_or m 6 0) 3

-- asked for by the host with any type, or one of the endpoint's three
unfoldable pub deactivate_written : Octets → Bool
deactivate_written m =
    eqb (length m) 2
    && ((leb (get_or m 0 0) to_discovery && eqb (get_or m 1 0) host_request) || (eqb (get_or m 0 0) to_sleep && eqb (get_or m 1 0) endpoint_request)
    || (eqb (get_or m 0 0) to_discovery && leb endpoint_request (get_or m 1 0) && leb (get_or m 1 0) link_loss))

abbrev pub notice_written : Option Notice → Octets → Bool
notice_written (Some notice.Reset) m = reset_written m
notice_written (Some notice.Credits) m = credits_written m
notice_written (Some notice.GenericError) m = alone activation_failed m
notice_written (Some notice.Discover) m = discover_written m
notice_written (Some notice.Activated) m = activated_written m
notice_written (Some notice.Deactivate) m = deactivate_written m
notice_written None m = false

-- ---- the guard

-- contents of a response or a notification that the bench's controller could have written
unfoldable pub written : ℕ → ℕ → ℕ → Octets → Bool
written mt gid oid m =
    pick (eqb mt mt_response) (status_alone m || ok_written (command_of gid oid) m) (notice_written (notice_of gid oid) m)
