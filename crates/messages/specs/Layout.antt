-- The octets of every message that the controller sends (document 01, "What the controller answers" and "The air"; 003's tables as named).
-- Assumes nothing.
use Rattle.std.specs.Prelude.{ℕ, suc, ◌+◌, ◌≡◌, List, [], ◌∷◌, ◌++◌, map, length, eqb, Ok, Err, Option, Some, None}
use Rattle.octets.specs.Octets.{Octets, pick, splice}
use Rattle.state.specs.Judgement.{Judgement, octet_of}
use Rattle.state.specs.Names.{gid_core, gid_rf, oid_reset, oid_conn_credits, oid_deactivate, status_ok, frame_interface, host_request, activation_failed}
use Rattle.state.specs.declared.kinds.Terms.{Terms}
use Rattle.state.specs.declared.kinds.Profile.{Profile}
use Rattle.state.specs.declared.kinds.Activation.{Activation}
use Rattle.state.specs.declared.kinds.ControllerSide.{ControllerSide}
use Rattle.state.specs.declared.kinds.Counts.{Counts}
use Rattle.state.specs.declared.verdict.Verdict.TheVariants.{Resets, Initialises, Opens, Closes, Turns, Selects, Deactivates, SetsConfig, GetsConfig}
use Rattle.messages.specs.declared.layout.Note.{Note}
use Rattle.state.specs.Conn.{conn_of, owing}
use Rattle.config.specs.Commands.{set_rsp, get_rsp}

-- a control message that the controller sends
pub record Message : Type 0 where
  pub gid : ℕ
  pub oid : ℕ
  pub payload : Octets

-- no message
abbrev pub nothing : Message
nothing = record { gid = 0; oid = 0; payload = [] }

-- what a function that writes a message into the caller's buffer answers, and the buffer after it
pub record Put (out : Octets) (m : Message) (note : Note) (after : Octets) : Type 0 where
  pub head : note ≡ record { gid = m.gid; oid = m.oid; len = length m.payload }
  pub octets : after ≡ splice out 0 m.payload

-- what is noted of a message: none where there is no message
abbrev pub noted : Message → Option Note
noted m = pick (eqb (length m.payload) 0) None (Some (record { gid = m.gid; oid = m.oid; len = length m.payload }))

-- what a function answers that writes a message where there is one, and the buffer after it: no message leaves it as it is
pub record MayPut (out : Octets) (m : Message) (note : Option Note) (after : Octets) : Type 0 where
  pub head : note ≡ noted m
  pub octets : after ≡ splice out 0 m.payload

-- ---- CORE_RESET (003, Table 5): trigger 02, configuration status, version 2.0, no manufacturer

abbrev pub reset_ntf : ℕ → Octets
reset_ntf type = 0x02 ∷ type ∷ 0x20 ∷ 0x00 ∷ 0x00 ∷ []

-- ---- CORE_INIT (003, Table 8): status, features, connections, routing table, control payload, HCI, NFC-V frame, one interface: Frame

abbrev pub init_rsp : ℕ → Octets
init_rsp control =
    0x00 ∷ 0x00 ∷ 0x00 ∷ 0x00 ∷ 0x00 ∷ 0x04 ∷ 0x00 ∷ 0x00 ∷ control ∷ 0x00 ∷ 0x00 ∷ 0x00 ∷ 0x00 ∷ 0x01 ∷ 0x01 ∷ 0x00 ∷ []

-- ---- CORE_CONN_CREATE (003, Table 14): status, payload, credits, Conn ID

abbrev pub create_rsp : Terms → ℕ → Octets
create_rsp t id = status_ok ∷ t.payload ∷ t.credits ∷ id ∷ []

-- ---- CORE_CONN_CREDITS_NTF (003, Table 18): the count of entries, then Conn ID and credits for each

-- the entries for what is owed at the places from p on, ascending
unfoldable pub entries_from : ℕ → List ℕ → Octets
entries_from p [] = []
entries_from p (n ∷ ns) = pick (eqb n 0) [] (conn_of p ∷ n ∷ []) ++ entries_from (suc p) ns

unfoldable pub entry_count : List ℕ → ℕ
entry_count [] = 0
entry_count (n ∷ ns) = pick (eqb n 0) 0 1 + entry_count ns

abbrev pub credits_ntf : List ℕ → Octets
credits_ntf owed = entry_count owed ∷ entries_from 0 owed

-- what is owed on the five connections
abbrev pub owed_on : ControllerSide → ℕ
owed_on k = owing k.opened k.grant k.owed

abbrev pub owed_of : List Counts → List ℕ
owed_of conns = map (λ (c : Counts). owed_on c.controller) conns

abbrev pub credits_message : List Counts → Message
credits_message conns = record { gid = gid_core; oid = oid_conn_credits; payload = credits_ntf (owed_of conns) }

-- ---- CORE_GENERIC_ERROR_NTF (003, Table 19)

abbrev pub generic_error_ntf : Octets
generic_error_ntf = activation_failed ∷ []

-- ---- RF_DISCOVER_NTF (003, Table 66)

abbrev pub discover_ntf : Activation → ℕ → Octets → Octets
discover_ntf a type params = a.id ∷ a.protocol ∷ a.mode ∷ length params ∷ (params ++ (type ∷ []))

-- ---- RF_INTF_ACTIVATED_NTF (003, Table 78): interface Frame, no activation parameters

abbrev pub activated_ntf : Activation → Terms → Octets → Octets
activated_ntf a t params =
    a.id ∷ frame_interface ∷ a.protocol ∷ a.mode ∷ t.payload ∷ t.credits ∷ length params
    ∷ (params ++ (a.mode ∷ 0x00 ∷ 0x00 ∷ 0x00 ∷ []))

-- ---- RF_DEACTIVATE_NTF (003, Tables 79 to 81): type, reason

abbrev pub deactivate_ntf : ℕ → ℕ → Octets
deactivate_ntf type reason = type ∷ reason ∷ []

-- ---- what a verdict is answered with

-- status first; a status other than 00 stands alone but for 09 of the configuration commands, which lists. b has the values before the command, m is its payload
unfoldable pub response_of : Profile → Octets → Octets → Judgement → Octets
response_of p b m (Err status) = octet_of status ∷ []
response_of p b m (Ok (Resets type)) = status_ok ∷ []
response_of p b m (Ok Initialises) = init_rsp p.control
response_of p b m (Ok (Opens id t)) = create_rsp t id
response_of p b m (Ok (Closes id)) = status_ok ∷ []
response_of p b m (Ok (Turns rf)) = status_ok ∷ []
response_of p b m (Ok (Selects pair)) = status_ok ∷ []
response_of p b m (Ok (Deactivates type rf)) = status_ok ∷ []
response_of p b m (Ok SetsConfig) = set_rsp m
response_of p b m (Ok GetsConfig) = get_rsp b m

-- the same GID and OID as the command's
abbrev pub response_message : ℕ → ℕ → Profile → Octets → Octets → Judgement → Message
response_message gid oid p b m v = record { gid = gid; oid = oid; payload = response_of p b m v }

-- the notification after the response
unfoldable pub notice_message : Judgement → Message
notice_message (Err status) = nothing
notice_message (Ok (Resets type)) = record { gid = gid_core; oid = oid_reset; payload = reset_ntf type }
notice_message (Ok Initialises) = nothing
notice_message (Ok (Opens id t)) = nothing
notice_message (Ok (Closes id)) = nothing
notice_message (Ok (Turns rf)) = nothing
notice_message (Ok (Selects pair)) = nothing
notice_message (Ok (Deactivates type rf)) = record { gid = gid_rf; oid = oid_deactivate; payload = deactivate_ntf type host_request }
notice_message (Ok SetsConfig) = nothing
notice_message (Ok GetsConfig) = nothing
