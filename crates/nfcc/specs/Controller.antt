-- The controller's judgement of a whole command, and what follows from it (document 01, "What the controller answers").
-- Assumes nothing.
use Rattle.std.specs.Prelude.{ℕ, zero, suc, ◌+◌, ◌*◌, ◌%◌, Bool, true, false, ◌&&◌, ◌||◌, not, List, length, get_or, eqb, ltb, leb, Some, None, Option, Ok, Err}
use Rattle.octets.specs.Octets.{Octets, pick}
use Rattle.state.specs.Names.{loopback, frame_interface, listen_b, listen_f, to_idle, to_sleep, to_sleep_af, to_discovery}
use Rattle.nfcc.specs.Kinds.{Hand, Profile, Pair, Pairs, Activation, Rf, Phase, Controller, Counts, Command, Verdict}
use Rattle.nfcc.specs.Kinds.status.{Rejected, SyntaxError, SemanticError, AlreadyStarted}
use Rattle.nfcc.specs.Kinds.rf.{Idle, Discovery, W4AllDiscoveries, W4HostSelect, PollActive, ListenActive, ListenSleep}
use Rattle.nfcc.specs.Kinds.phase.{Cold, Ready}
use Rattle.nfcc.specs.Kinds.phase as phase
use Rattle.nfcc.specs.Kinds.command.{Reset, Init, ConnCreate, ConnClose, Discover, Select, Deactivate, Unknown, SetConfig, GetConfig}
use Rattle.nfcc.specs.Kinds.verdict.{Resets, Initialises, Opens, Closes, Turns, Selects, Deactivates, SetsConfig, GetsConfig}
use Rattle.state.specs.Judgement.{Judgement}
use Rattle.state.specs.Conn.{terms_of, controller_closed_at, controller_opened_at, controller_all_closed, empty}
use Rattle.state.specs.Radio.{is_idle, polls, listens, no_pairs, listed}
use Rattle.state.specs.Commands.{command_of}
use Rattle.config.specs.Stored.{defaults}
use Rattle.config.specs.Commands.{count_in, param_at, names_known, config_after}

-- ---- in order: unknown, too short, wrong state, values

-- the octets that a command must have; an unknown one is judged whatever its payload
unfoldable pub shortest : Command → Octets → ℕ
shortest Reset m = 1
shortest Init m = 2
shortest ConnCreate m = 2
shortest ConnClose m = 1
shortest Discover m = 1 + 2 * get_or m 0 0
shortest Select m = 3
shortest Deactivate m = 1
shortest Unknown m = 0
shortest SetConfig m = param_at m (count_in m)
shortest GetConfig m = 1 + count_in m

abbrev pub is_reset : Phase → Bool
is_reset Cold = false
is_reset phase.Reset = true
is_reset Ready = false

abbrev pub is_ready : Phase → Bool
is_ready Cold = false
is_ready phase.Reset = false
is_ready Ready = true

-- RESET in every phase, INIT once after each RESET, the others after INIT
unfoldable pub allowed : Phase → Command → Bool
allowed p Reset = true
allowed p Init = is_reset p
allowed p ConnCreate = is_ready p
allowed p ConnClose = is_ready p
allowed p Discover = is_ready p
allowed p Select = is_ready p
allowed p Deactivate = is_ready p
allowed p Unknown = true
allowed p SetConfig = is_ready p
allowed p GetConfig = is_ready p

-- ---- CORE_RESET (003, Table 5)

unfoldable pub reset_by : ℕ → Judgement
reset_by type = pick (ltb 1 type) (Err SyntaxError) (Ok (Resets type))

-- ---- CORE_CONN_CREATE (003, Table 14)

-- the Conn ID after another, round 2-5; 2 after none
unfoldable pub after : ℕ → ℕ
after id = pick (leb 2 id && ltb id 5) (id + 1) 2

-- the first Conn ID that is not open, from one on; none where the number of tries is spent
unfoldable pub seek : (ℕ → Bool) → ℕ → ℕ → Option ℕ
seek is_open zero id = None
seek is_open (suc n) id = pick (is_open id) (seek is_open n (after id)) (Some id)

-- the next Conn ID after the last given, passing open ones; none where all four are open
unfoldable pub next_id : (ℕ → Bool) → ℕ → Option ℕ
next_id is_open given = seek is_open 4 (after given)

abbrev pub opens_as : Profile → Option ℕ → Judgement
opens_as p None = Err Rejected
opens_as p (Some id) = Ok (Opens id (terms_of p id))

-- destination 01, the loopback, with 00 parameters
unfoldable pub create_by : Profile → (ℕ → Bool) → ℕ → Octets → Judgement
create_by p is_open given m =
    pick (eqb (get_or m 0 0) loopback && eqb (get_or m 1 0) 0) (opens_as p (next_id is_open given)) (Err Rejected)

-- ---- CORE_CONN_CLOSE (003, Table 17)

-- the low four bits name an open dynamic connection
unfoldable pub close_by : (ℕ → Bool) → ℕ → Judgement
close_by is_open octet =
    pick (not (eqb (octet % 16) 0) && is_open (octet % 16)) (Ok (Closes (octet % 16))) (Err Rejected)

-- ---- RF_DISCOVER (003, Table 66)

-- a listening mode is discovered in every period, a polling one in each or in one of up to ten
abbrev pub config_ok : ℕ → ℕ → Bool
config_ok mode frequency =
    (polls mode && (leb 0x01 frequency && leb frequency 0x0A)) || (listens mode && eqb frequency 0x01)

-- the first n pairs of mode and frequency, after the octet that counts them
unfoldable pub configs_ok : Octets → ℕ → Bool
configs_ok m zero = true
configs_ok m (suc n) = configs_ok m n && config_ok (get_or m (1 + 2 * n) 0) (get_or m (2 + 2 * n) 0)

unfoldable pub discover_by : Rf → Octets → Judgement
discover_by rf m =
    pick (is_idle rf)
    (pick (leb (get_or m 0 0) 8 && configs_ok m (get_or m 0 0)) (Ok (Turns Discovery)) (Err Rejected))
    (Err AlreadyStarted)

-- ---- RF_DISCOVER_SELECT (003, Table 77)

abbrev pub select_by : Rf → Pairs → Pair → ℕ → Judgement
select_by (W4HostSelect s) ps p interface = pick (listed ps p && eqb interface frame_interface) (Ok (Selects p)) (Err Rejected)
select_by Idle ps p interface = Err SemanticError
select_by Discovery ps p interface = Err SemanticError
select_by W4AllDiscoveries ps p interface = Err SemanticError
select_by (PollActive a) ps p interface = Err SemanticError
select_by (ListenActive a) ps p interface = Err SemanticError
select_by ListenSleep ps p interface = Err SemanticError

-- ---- RF_DEACTIVATE (003, Tables 79 to 81)

-- 003, L3696 and L3704: on the Frame interface a listening NFC-F endpoint is not put to Sleep, nor an NFC-B one to Sleep_AF;
-- document 01 would take both
abbrev pub sleep_rejected : Activation → ℕ → Bool
sleep_rejected a type = (eqb type to_sleep && eqb a.mode listen_f) || (eqb type to_sleep_af && eqb a.mode listen_b)

-- the state after type 0, 3, and 1 or 2
abbrev pub rest_state : ℕ → Rf → Rf
rest_state type asleep = pick (eqb type to_idle) Idle (pick (eqb type to_discovery) Discovery asleep)

abbrev pub ended : ℕ → Rf → Verdict
ended type asleep = Deactivates type (rest_state type asleep)

unfoldable pub deactivate_by : Rf → ℕ → Judgement
deactivate_by Idle type = Err SemanticError
-- 003, L1824: the type is ignored, as in both W4 states; document 01 would look at it
deactivate_by Discovery type = Ok (Turns Idle)
deactivate_by W4AllDiscoveries type = Ok (Turns Idle)
deactivate_by (W4HostSelect s) type = Ok (Turns Idle)
deactivate_by ListenSleep type =
    pick (ltb to_discovery type) (Err SyntaxError) (pick (eqb type to_idle) (Ok (Turns Idle)) (Err SemanticError))
deactivate_by (PollActive a) type = pick (ltb to_discovery type) (Err SyntaxError) (Ok (ended type (W4HostSelect None)))
deactivate_by (ListenActive a) type =
    pick (ltb to_discovery type) (Err SyntaxError)
    (pick (sleep_rejected a type) (Err Rejected) (Ok (ended type ListenSleep)))

-- ---- CORE_SET_CONFIG (003, Table 11)

-- 003, L1794-1798: all of the table's are discovery parameters, which are set in IDLE alone; one that names none of them is answered in every state
unfoldable pub set_by : Rf → Octets → Judgement
set_by rf m = pick (is_idle rf || not (names_known m (count_in m))) (Ok SetsConfig) (Err SemanticError)

-- ---- the judgement

abbrev pub values_of : Profile → Controller → (ℕ → Bool) → Command → Octets → Judgement
values_of p k is_open Reset m = reset_by (get_or m 0 0)
values_of p k is_open Init m = Ok Initialises
values_of p k is_open ConnCreate m = create_by p is_open k.given m
values_of p k is_open ConnClose m = close_by is_open (get_or m 0 0)
values_of p k is_open Discover m = discover_by k.rf m
values_of p k is_open Select m = select_by k.rf k.pairs (record { id = get_or m 0 0; protocol = get_or m 1 0 }) (get_or m 2 0)
values_of p k is_open Deactivate m = deactivate_by k.rf (get_or m 0 0)
values_of p k is_open Unknown m = Err SyntaxError
values_of p k is_open SetConfig m = set_by k.rf m
values_of p k is_open GetConfig m = Ok GetsConfig

abbrev pub judge_as : Profile → Controller → (ℕ → Bool) → Command → Octets → Judgement
judge_as p k is_open c m =
    pick (ltb (length m) (shortest c m)) (Err SyntaxError)
    (pick (allowed k.phase c) (values_of p k is_open c m) (Err SemanticError))

-- the verdict on a whole command, where `is_open` says which connections are open at the controller
unfoldable pub judge_of : Profile → Controller → (ℕ → Bool) → ℕ → ℕ → Octets → Judgement
judge_of p k is_open gid oid m = judge_as p k is_open (command_of gid oid) m

-- ---- the controller's numbers after a verdict

-- the list of pairs is emptied in IDLE
abbrev pub turned : Controller → Rf → Controller
turned k rf = record { phase = k.phase; given = k.given; rf = rf; pairs = pick (is_idle rf) no_pairs k.pairs }

unfoldable pub controller_after : Controller → Judgement → Controller
controller_after k (Err s) = k
controller_after k (Ok (Resets t)) = record { phase = phase.Reset; given = 0; rf = Idle; pairs = no_pairs }
controller_after k (Ok Initialises) = record { phase = Ready; given = k.given; rf = k.rf; pairs = k.pairs }
controller_after k (Ok (Opens c t)) = record { phase = k.phase; given = c; rf = k.rf; pairs = k.pairs }
controller_after k (Ok (Closes c)) = k
controller_after k (Ok (Turns rf)) = turned k rf
controller_after k (Ok (Selects p)) = turned k (W4HostSelect (Some p))
controller_after k (Ok (Deactivates t rf)) = turned k rf
controller_after k (Ok SetsConfig) = k
controller_after k (Ok GetsConfig) = k

-- ---- the connections after a verdict

unfoldable pub conns_after : List Counts → Judgement → List Counts
conns_after conns (Err s) = conns
conns_after conns (Ok (Resets t)) = controller_all_closed conns
conns_after conns (Ok Initialises) = conns
conns_after conns (Ok (Opens c t)) = controller_opened_at conns c t
conns_after conns (Ok (Closes c)) = controller_closed_at conns c
conns_after conns (Ok (Turns rf)) = conns
conns_after conns (Ok (Selects p)) = conns
conns_after conns (Ok (Deactivates t rf)) = controller_closed_at conns 0
conns_after conns (Ok SetsConfig) = conns
conns_after conns (Ok GetsConfig) = conns

-- the endpoint's message in hand: connection 0 opens and closes with none
unfoldable pub endpoint_after : Hand → Judgement → Hand
endpoint_after h (Err s) = h
endpoint_after h (Ok (Resets t)) = empty
endpoint_after h (Ok Initialises) = h
endpoint_after h (Ok (Opens c t)) = pick (eqb c 0) empty h
endpoint_after h (Ok (Closes c)) = pick (eqb c 0) empty h
endpoint_after h (Ok (Turns rf)) = h
endpoint_after h (Ok (Selects p)) = h
endpoint_after h (Ok (Deactivates t rf)) = empty
endpoint_after h (Ok SetsConfig) = h
endpoint_after h (Ok GetsConfig) = h

-- ---- the values after a verdict on the command m

unfoldable pub config_by : Octets → Octets → Judgement → Octets
config_by b m (Err s) = b
config_by b m (Ok (Resets t)) = pick (eqb t 1) defaults b
config_by b m (Ok Initialises) = b
config_by b m (Ok (Opens c t)) = b
config_by b m (Ok (Closes c)) = b
config_by b m (Ok (Turns rf)) = b
config_by b m (Ok (Selects p)) = b
config_by b m (Ok (Deactivates t rf)) = b
config_by b m (Ok SetsConfig) = config_after b m
config_by b m (Ok GetsConfig) = b
