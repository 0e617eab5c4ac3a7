-- Octets and fields, both ways: what the controller writes is what the host takes for written and reads back, and what the host takes for
-- written is what its fields make. Every message that the controller sends has its laws here or in Backwards, and so have the air's events.
-- Assumes nothing.
use Rattle.std.specs.Prelude.{ℕ, zero, suc, ◌≤◌, ◌<◌, ◌≡◌, true, ◌||◌, List, [], ◌∷◌, ◌++◌, length, get_or, Some}
use Rattle.octets.specs.Octets.{Octets, pick, cut}
use Rattle.ends.specs.Kinds.{Terms, Activation, Command}
use Rattle.ends.specs.Kinds.command as command
use Rattle.ends.specs.Kinds.notice as notice
use Rattle.ends.specs.Kinds.answer.{Done, ClosesAll, Sized, Opens, Closes}
use Rattle.ends.specs.Kinds.heard.{Nothing, Activated, Deactivated}
use Rattle.ends.specs.Kinds.event.{Found, Poll, Listen}
use Rattle.state.specs.Names.{status_ok, invalid_param}
use Rattle.state.specs.Conn.{conn_of}
use Rattle.state.specs.Radio.{polls, listens, id_ok}
use Rattle.state.specs.Profile.{credits_ok}
use Rattle.config.specs.Table.{config_size, row_of, known_row}
use Rattle.config.specs.Stored.{value_of, parameters_ok}
use Rattle.config.specs.Commands.{count_in, param_at, invalid_in, set_rsp, asked_in, get_rsp}
use Rattle.nfcc.specs.CommandTrips.{Param, params_in}
use Rattle.messages.specs.Layout.{reset_ntf, init_rsp, create_rsp, credits_ntf, generic_error_ntf, discover_ntf, activated_ntf, deactivate_ntf}
use Rattle.dh.specs.Contents.{create_written, activated_written, written}
use Rattle.dh.specs.Host.{answer_of, noticed, credits_for}
use Rattle.air.specs.Air.{event_of}

-- ---- fields inside document 01's limits

pub record TermsOk (t : Terms) : Type 0 where
  pub payload : 1 ≤ t.payload
  pub credits : credits_ok t.credits ≡ true

pub record TargetOk (a : Activation) : Type 0 where
  pub id : id_ok a.id ≡ true
  pub mode : (polls a.mode || listens a.mode) ≡ true

-- ---- the fields of a create response and of an activation

abbrev pub create_terms : Octets → Terms
create_terms m = record { payload = get_or m 1 0; credits = get_or m 2 0 }

abbrev pub activated_target : Octets → Activation
activated_target m = record { id = get_or m 0 0; protocol = get_or m 2 0; mode = get_or m 3 0 }

abbrev pub activated_terms : Octets → Terms
activated_terms m = record { payload = get_or m 4 0; credits = get_or m 5 0 }

abbrev pub activated_params : Octets → Octets
activated_params m = cut 7 (get_or m 6 0) m

-- ---- the fields of the configuration responses

-- the IDs that a set's lists
abbrev pub listed_ids : Octets → Octets
listed_ids m = cut 2 (get_or m 1 0) m

-- the parameters that a get's lists: what stands after its status has the form of a set's list
abbrev pub listed_params : Octets → List Param
listed_params m = params_in (cut 1 (length m) m)

-- the first n that are asked for: all of them with their values, or those that are not known, without a value
unfoldable pub shown_params : Octets → Octets → ℕ → List Param
shown_params b m zero = []
shown_params b m (suc n) = shown_params b m n ++ (record { id = asked_in m n; value = value_of b (row_of (asked_in m n)) } ∷ [])

unfoldable pub unavailable_params : Octets → ℕ → List Param
unavailable_params m zero = []
unavailable_params m (suc n) =
    unavailable_params m n ++ pick (known_row (row_of (asked_in m n))) [] (record { id = asked_in m n; value = [] } ∷ [])

-- ---- the octets of an event

abbrev pub found_octets : Activation → ℕ → Octets → Octets
found_octets a type params = 1 ∷ a.id ∷ a.protocol ∷ a.mode ∷ type ∷ params

abbrev pub active_octets : ℕ → Activation → Octets → Octets
active_octets kind a params = kind ∷ a.id ∷ a.protocol ∷ a.mode ∷ params

pub record RoundTrips : Type 0 where
  -- a status other than 00, alone
  pub status_written : (gid oid status : ℕ) → (status ≡ 0 → ⊥) → written 2 gid oid (status ∷ []) ≡ true
  pub status_read : (c : Command) (aim status : ℕ) → (status ≡ 0 → ⊥) → answer_of c aim (status ∷ []) ≡ Done
  -- the OK responses of one octet
  pub reset_written_law : written 2 0 0 (0x00 ∷ []) ≡ true
  pub reset_read : (aim : ℕ) → answer_of command.Reset aim (0x00 ∷ []) ≡ ClosesAll
  pub close_written : written 2 0 5 (0x00 ∷ []) ≡ true
  pub close_read : (aim : ℕ) → answer_of command.ConnClose aim (0x00 ∷ []) ≡ Closes aim
  pub rf_written : (written 2 1 3 (0x00 ∷ []) ≡ true) × (written 2 1 4 (0x00 ∷ []) ≡ true) × (written 2 1 6 (0x00 ∷ []) ≡ true)
  -- CORE_INIT_RSP
  pub init_written_law : (control : ℕ) → 32 ≤ control → written 2 0 1 (init_rsp control) ≡ true
  pub init_read : (control aim : ℕ) → answer_of command.Init aim (init_rsp control) ≡ Sized control
  -- CORE_CONN_CREATE_RSP
  pub create_written_law : (t : Terms) (id : ℕ) → TermsOk t → 2 ≤ id → id ≤ 5 → written 2 0 4 (create_rsp t id) ≡ true
  pub create_read : (t : Terms) (id aim : ℕ) → answer_of command.ConnCreate aim (create_rsp t id) ≡ Opens id t
  pub create_back : (m : Octets) → create_written m ≡ true → create_rsp (create_terms m) (get_or m 3 0) ≡ m
  -- CORE_SET_CONFIG_RSP to a whole list: it lists the invalid parameters, in the order given
  pub set_written_law : (m : Octets) → param_at m (count_in m) ≤ 255 → written 2 0 2 (set_rsp m) ≡ true
  pub set_listed : (m : Octets) → listed_ids (set_rsp m) ≡ invalid_in m (count_in m)
  pub set_read : (aim : ℕ) (m : Octets) → answer_of command.SetConfig aim m ≡ Done
  -- CORE_GET_CONFIG_RSP from values that row 1 lets pass, with every status; what it lists is what was asked for, in that order
  pub get_written_law : (b m : Octets) → length b ≡ config_size → parameters_ok b ≡ true → written 2 0 3 (get_rsp b m) ≡ true
  pub get_shown : (b m : Octets) → get_or (get_rsp b m) 0 0 ≡ status_ok → listed_params (get_rsp b m) ≡ shown_params b m (count_in m)
  pub get_unavailable : (b m : Octets) → get_or (get_rsp b m) 0 0 ≡ invalid_param → listed_params (get_rsp b m) ≡ unavailable_params m (count_in m)
  pub get_read : (aim : ℕ) (m : Octets) → answer_of command.GetConfig aim m ≡ Done
  -- CORE_RESET_NTF and CORE_GENERIC_ERROR_NTF: no effect
  pub reset_noted : (type : ℕ) → type ≤ 1 → written 3 0 0 (reset_ntf type) ≡ true
  pub reset_heard : (type : ℕ) → noticed (Some notice.Reset) (reset_ntf type) ≡ Nothing
  pub error_noted : written 3 0 7 generic_error_ntf ≡ true
  pub error_heard : noticed (Some notice.GenericError) generic_error_ntf ≡ Nothing
  -- CORE_CONN_CREDITS_NTF: each connection's credits are those that were owed on it
  pub credits_written_law : (owed : List ℕ) (p : ℕ) → length owed ≡ 5 → ((q : ℕ) → get_or owed q 0 ≤ 8) → 1 ≤ get_or owed p 0
      → written 3 0 6 (credits_ntf owed) ≡ true
  pub credits_read : (owed : List ℕ) (p : ℕ) → length owed ≡ 5 → p < 5 → credits_for (credits_ntf owed) (conn_of p) ≡ get_or owed p 0
  -- RF_DISCOVER_NTF
  pub discover_written_law : (a : Activation) (type : ℕ) (params : Octets) → id_ok a.id ≡ true → polls a.mode ≡ true → type ≤ 2
      → length params ≤ 32 → written 3 1 3 (discover_ntf a type params) ≡ true
  -- RF_INTF_ACTIVATED_NTF
  pub activated_written_law : (a : Activation) (t : Terms) (params : Octets) → TargetOk a → TermsOk t → length params ≤ 32
      → written 3 1 5 (activated_ntf a t params) ≡ true
  pub activated_heard : (a : Activation) (t : Terms) (params : Octets) → noticed (Some notice.Activated) (activated_ntf a t params) ≡ Activated t
  pub activated_back : (m : Octets) → activated_written m ≡ true
      → activated_ntf (activated_target m) (activated_terms m) (activated_params m) ≡ m
  -- RF_DEACTIVATE_NTF: asked for by the host, and the endpoint's three
  pub deactivate_written_law : (type : ℕ) → type ≤ 3 → written 3 1 6 (deactivate_ntf type 0x00) ≡ true
  pub sleeps_written : written 3 1 6 (deactivate_ntf 0x01 0x01) ≡ true
  pub lost_written : written 3 1 6 (deactivate_ntf 0x03 0x02) ≡ true
  pub releases_written : written 3 1 6 (deactivate_ntf 0x03 0x01) ≡ true
  pub deactivate_heard : (type reason : ℕ) → noticed (Some notice.Deactivate) (deactivate_ntf type reason) ≡ Deactivated
  -- the events of the air
  pub found_read : (a : Activation) (type : ℕ) (params : Octets) → id_ok a.id ≡ true → polls a.mode ≡ true → type ≤ 2
      → length params ≤ 32 → event_of (found_octets a type params) ≡ Some (Found a type)
  pub poll_read : (a : Activation) (params : Octets) → id_ok a.id ≡ true → polls a.mode ≡ true → length params ≤ 32
      → event_of (active_octets 2 a params) ≡ Some (Poll a)
  pub listen_read : (a : Activation) (params : Octets) → id_ok a.id ≡ true → listens a.mode ≡ true → length params ≤ 32
      → event_of (active_octets 3 a params) ≡ Some (Listen a)
