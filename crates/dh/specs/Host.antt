-- The host's reading of a whole control message (document 01, up under "Calls"): what is heard in it, behind one guard, `written` of
-- Contents: could the bench's controller have written these contents?
-- Assumes nothing.
use Rattle.std.specs.Prelude.{ℕ, zero, suc, ◌+◌, Bool, true, false, ◌&&◌, ◌||◌, not, List, get_or, eqb, Option, Some, None}
use Rattle.octets.specs.Octets.{Octets, pick}
use Rattle.state.specs.Names.{gid_core, oid_reset, oid_conn_close, status_ok}
use Rattle.packets.specs.Types.{mt_response, mt_notification}
use Rattle.dh.specs.Kinds.{Asked, Host, HostSide, Counts, Command, Notice, Answer, Heard}
use Rattle.dh.specs.Kinds.command as command
use Rattle.dh.specs.Kinds.notice as notice
use Rattle.dh.specs.Kinds.answer.{Done, ClosesAll, Sized, Opens, Closes}
use Rattle.dh.specs.Kinds.heard.{Nothing, Dropped, Answered, Activated, Deactivated, Credits}
use Rattle.state.specs.Conn.{flows, credit_sum, counts_of, with_host, host_closed_at, host_opened_at, host_all_closed}
use Rattle.state.specs.Commands.{command_of, aim_in}
use Rattle.state.specs.Profile.{least_size}
use Rattle.dh.specs.Contents.{notice_of, entry_id, entry_credits, written}

-- ---- the unanswered command

-- what the host remembers of a command that it sends
abbrev pub asked_of : ℕ → ℕ → Octets → Asked
asked_of gid oid m = record { gid = gid; oid = oid; aim = aim_in m }

-- a response is awaited by the command with its GID and OID
abbrev pub awaits : Option Asked → ℕ → ℕ → Bool
awaits None gid oid = false
awaits (Some a) gid oid = eqb a.gid gid && eqb a.oid oid

abbrev pub aim_of : Option Asked → ℕ
aim_of None = 0
aim_of (Some a) = a.aim

-- a command is unanswered
abbrev pub is_busy : Option Asked → Bool
is_busy None = false
is_busy (Some a) = true

-- RESET and CONN_CLOSE
abbrev pub is_closer : ℕ → ℕ → Bool
is_closer gid oid = eqb gid gid_core && (eqb oid oid_reset || eqb oid oid_conn_close)

-- one of them is unanswered
abbrev pub is_closing : Option Asked → Bool
is_closing None = false
is_closing (Some a) = is_closer a.gid a.oid

-- ---- what they say

-- an OK response; CONN_CLOSE's names no connection, so it is the one that the command named
abbrev pub ok_answer : Command → ℕ → Octets → Answer
ok_answer command.Reset aim m = ClosesAll
ok_answer command.Init aim m = Sized (get_or m 8 0)
ok_answer command.ConnCreate aim m = Opens (get_or m 3 0) (record { payload = get_or m 1 0; credits = get_or m 2 0 })
ok_answer command.ConnClose aim m = Closes aim
ok_answer command.Discover aim m = Done
ok_answer command.Select aim m = Done
ok_answer command.Deactivate aim m = Done
ok_answer command.Unknown aim m = Done
ok_answer command.SetConfig aim m = Done
ok_answer command.GetConfig aim m = Done

unfoldable pub answer_of : Command → ℕ → Octets → Answer
answer_of c aim m = pick (eqb (get_or m 0 0) status_ok) (ok_answer c aim m) Done

abbrev pub noticed : Option Notice → Octets → Heard
noticed (Some notice.Reset) m = Nothing
noticed (Some notice.Credits) m = Credits
noticed (Some notice.GenericError) m = Nothing
noticed (Some notice.Discover) m = Nothing
noticed (Some notice.Activated) m = Activated (record { payload = get_or m 4 0; credits = get_or m 5 0 })
noticed (Some notice.Deactivate) m = Deactivated
noticed None m = Nothing

-- what is heard in contents that are known to be written here. It stands behind `written`: it tests no length and no value, so a create
-- response that is cut short would open connection 0. A host before a bought controller needs limits of its own
unfoldable pub heard_written : Option Asked → ℕ → ℕ → ℕ → Octets → Heard
heard_written p mt gid oid m =
    pick (eqb mt mt_response) (Answered (answer_of (command_of gid oid) (aim_of p) m)) (noticed (notice_of gid oid) m)

-- notifications are always heard, a response where its command is unanswered, commands never
abbrev pub expected : Option Asked → ℕ → ℕ → ℕ → Bool
expected p mt gid oid = pick (eqb mt mt_response) (awaits p gid oid) (eqb mt mt_notification)

unfoldable pub hear_of : Option Asked → ℕ → ℕ → ℕ → Octets → Heard
hear_of p mt gid oid m = pick (expected p mt gid oid) (pick (written mt gid oid m) (heard_written p mt gid oid m) Nothing) Dropped

-- ---- a credit notice

-- the credits that the first n entries have for a Conn ID
unfoldable pub credits_in : Octets → ℕ → ℕ → ℕ
credits_in m zero c = 0
credits_in m (suc n) c = credits_in m n c + pick (eqb (entry_id m n) c) (entry_credits m n) 0

abbrev pub credits_for : Octets → ℕ → ℕ
credits_for m c = credits_in m (get_or m 0 0) c

-- one of the first n entries names a connection that is not open at the host, where `is_open` says which are
unfoldable pub names_closed : (ℕ → Bool) → Octets → ℕ → Bool
names_closed is_open m zero = false
names_closed is_open m (suc n) = names_closed is_open m n || not (is_open (entry_id m n))

-- ---- the host after it

abbrev pub settled : Host → ℕ → Host
settled h size = record { size = size; pending = None }

abbrev pub host_answered : Host → Answer → Host
host_answered h Done = settled h h.size
host_answered h ClosesAll = settled h least_size
host_answered h (Sized n) = settled h n
host_answered h (Opens c t) = settled h h.size
host_answered h (Closes c) = settled h h.size

unfoldable pub host_after : Host → Heard → Host
host_after h Nothing = h
host_after h Dropped = h
host_after h (Answered a) = host_answered h a
host_after h (Activated t) = h
host_after h Deactivated = h
host_after h Credits = h

-- ---- the connections after it

-- credits for a connection that is open and flow-controlled; for any other they do nothing
abbrev pub credited : HostSide → ℕ → HostSide
credited h n =
    record {
      opened = h.opened;
      payload = h.payload;
      grant = h.grant;
      held = pick (h.opened && flows h.grant) (credit_sum h.held n) h.held;
      hand = h.hand;
      run = h.run;
    }

abbrev pub credited_at : List Counts → Octets → ℕ → List Counts
credited_at conns m c = with_host conns c (credited (counts_of conns c).host (credits_for m c))

abbrev pub all_credited : List Counts → Octets → List Counts
all_credited conns m = credited_at (credited_at (credited_at (credited_at (credited_at conns m 0) m 2) m 3) m 4) m 5

abbrev pub conns_answered : List Counts → Answer → List Counts
conns_answered conns Done = conns
conns_answered conns ClosesAll = host_all_closed conns
conns_answered conns (Sized n) = conns
conns_answered conns (Opens c t) = host_opened_at conns c t
conns_answered conns (Closes c) = host_closed_at conns c

unfoldable pub conns_heard : List Counts → Octets → Heard → List Counts
conns_heard conns m Nothing = conns
conns_heard conns m Dropped = conns
conns_heard conns m (Answered a) = conns_answered conns a
conns_heard conns m (Activated t) = host_opened_at conns 0 t
conns_heard conns m Deactivated = host_closed_at conns 0
conns_heard conns m Credits = all_credited conns m

-- the drop flag
unfoldable pub drop_heard : (ℕ → Bool) → Octets → Heard → Bool
drop_heard is_open m Nothing = false
drop_heard is_open m Dropped = true
drop_heard is_open m (Answered a) = false
drop_heard is_open m (Activated t) = false
drop_heard is_open m Deactivated = false
drop_heard is_open m Credits = names_closed is_open m (get_or m 0 0)
