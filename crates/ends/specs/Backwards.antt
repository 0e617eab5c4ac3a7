-- From octets to fields and back: a message that the host takes for written is made of the fields that are read from it, so no two such
-- messages have the same fields. `specs/RoundTrips.antt` has the create response and the activation; the others are here.
-- Assumes nothing.
use Rattle.std.specs.Prelude.{ℕ, ◌+◌, ◌≡◌, true, [], ◌∷◌, map, length, get_or, eqb, Some}
use Rattle.octets.specs.Octets.{Octets, pick, cut}
use Rattle.ends.specs.Kinds.{Activation}
use Rattle.ends.specs.Kinds.notice as notice
use Rattle.state.specs.Names.{status_ok, invalid_param}
use Rattle.config.specs.Written.{set_written, get_written}
use Rattle.nfcc.specs.CommandTrips.{set_cmd}
use Rattle.messages.specs.Layout.{reset_ntf, init_rsp, credits_ntf, generic_error_ntf, discover_ntf, deactivate_ntf}
use Rattle.dh.specs.Contents.{init_written, reset_written, credits_written, discover_written, deactivate_written, notice_written}
use Rattle.dh.specs.Host.{credits_for}
use Rattle.ends.specs.RoundTrips.{listed_ids, listed_params}

-- ---- the fields of a discovery

abbrev pub discover_target : Octets → Activation
discover_target m = record { id = get_or m 0 0; protocol = get_or m 1 0; mode = get_or m 2 0 }

abbrev pub discover_type : Octets → ℕ
discover_type m = get_or m (4 + get_or m 3 0) 0

abbrev pub discover_params : Octets → Octets
discover_params m = cut 4 (get_or m 3 0) m

-- ---- a set's response, by the IDs that it lists

abbrev pub listing_of : Octets → Octets
listing_of ids = pick (eqb (length ids) 0) status_ok invalid_param ∷ length ids ∷ ids

pub record Backwards : Type 0 where
  -- CORE_INIT_RSP
  pub init_back : (m : Octets) → init_written m ≡ true → init_rsp (get_or m 8 0) ≡ m
  -- CORE_SET_CONFIG_RSP and CORE_GET_CONFIG_RSP
  pub set_back : (m : Octets) → set_written m ≡ true → listing_of (listed_ids m) ≡ m
  pub get_back : (m : Octets) → get_written m ≡ true → (get_or m 0 0 ∷ set_cmd (listed_params m)) ≡ m
  -- CORE_RESET_NTF and CORE_GENERIC_ERROR_NTF
  pub reset_back : (m : Octets) → reset_written m ≡ true → reset_ntf (get_or m 1 0) ≡ m
  pub error_back : (m : Octets) → notice_written (Some notice.GenericError) m ≡ true → generic_error_ntf ≡ m
  -- RF_DISCOVER_NTF: its fields are read back, and they make it
  pub discover_target_law : (a : Activation) (type : ℕ) (params : Octets) → discover_target (discover_ntf a type params) ≡ a
  pub discover_type_law : (a : Activation) (type : ℕ) (params : Octets) → discover_type (discover_ntf a type params) ≡ type
  pub discover_params_law : (a : Activation) (type : ℕ) (params : Octets) → discover_params (discover_ntf a type params) ≡ params
  pub discover_back : (m : Octets) → discover_written m ≡ true
      → discover_ntf (discover_target m) (discover_type m) (discover_params m) ≡ m
  -- RF_DEACTIVATE_NTF
  pub deactivate_back : (m : Octets) → deactivate_written m ≡ true → deactivate_ntf (get_or m 0 0) (get_or m 1 0) ≡ m
  -- CORE_CONN_CREDITS_NTF: the credits for the five connections
  pub credits_back : (m : Octets) → credits_written m ≡ true → credits_ntf (map (credits_for m) (0 ∷ 2 ∷ 3 ∷ 4 ∷ 5 ∷ [])) ≡ m
