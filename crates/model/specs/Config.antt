-- What a get shows (change 5): for each parameter asked, in the order asked, the value last accepted since it was last restored, else its default. The values are
-- those of a diary of the calls, kept beside demand 3's account and like it: from arguments, answers and packets put, never from the record. Whether a parameter of
-- a set was accepted goes by the command's octets and the definition of an acceptable value (`accepted` of config/Commands), not by the response's list.
-- Assumes nothing.
use Rattle.std.specs.Prelude.{ℕ, ◌≡◌, Bool, true, ◌&&◌, ◌||◌, List, [], ◌∷◌, get_or, eqb}
use Rattle.octets.specs.Octets.{Octets, pick}
use Rattle.packets.specs.Types.{mt_response}
use Rattle.packets.specs.Segments.{more, last}
use Rattle.state.specs.Names.{gid_core, oid_reset, oid_set_config, oid_get_config, status_ok, invalid_param}
use Rattle.state.specs.Profile.{profile_in, profile_octets_ok}
use Rattle.config.specs.Commands.{count_in, set_rsp}
use Rattle.config.specs.Accepted.{ById, all_restored, last_accepted, showing}
use Rattle.wires.specs.Meaning.{Meaning, datum, control, junk, meaning}
use Rattle.model.specs.State.{State, cold}
use Rattle.model.specs.Effects.{Call, fresh, power, command, send, push, down, consume, credit, air, reply, up, report, Result, taken, refused}
use Rattle.model.specs.Bench.{step}
use Rattle.model.specs.Observer.{Event, events, after}

-- ---- the diary

pub record Diary : Type 0 where
  -- the last command that was taken
  pub gid : ℕ
  pub oid : ℕ
  pub payload : Octets
  -- the values, by ID
  pub values : ById

abbrev pub first_page : Diary
first_page = record { gid = 0; oid = 0; payload = []; values = all_restored }

abbrev pub with_values : ById → Diary → Diary
with_values g n = record { gid = n.gid; oid = n.oid; payload = n.payload; values = g }

-- the statuses with which a set sets what is acceptable
abbrev pub is_set : ℕ → Bool
is_set status = eqb status status_ok || eqb status invalid_param

-- the answer to a set: what is acceptable was accepted
abbrev pub set_by : ℕ → Diary → ById
set_by status n = pick (is_set status) (last_accepted n.payload (count_in n.payload) n.values) n.values

-- the answer to a RESET: of type 1 and OK, it restored all
abbrev pub reset_by : ℕ → Diary → ById
reset_by status n = pick (eqb status status_ok && eqb (get_or n.payload 0 0) 1) all_restored n.values

-- a response that the controller puts, b being its contents: only its status is looked at
abbrev pub values_by : ℕ → ℕ → Octets → Diary → ById
values_by gid oid b n =
    pick (eqb gid gid_core && eqb oid oid_set_config) (set_by (get_or b 0 0) n)
    (pick (eqb gid gid_core && eqb oid oid_reset) (reset_by (get_or b 0 0) n) n.values)

abbrev pub put_by : Meaning → Diary → Diary
put_by (datum c k x) n = n
put_by (control mt gid oid (more b)) n = n
put_by (control mt gid oid (last b)) n = pick (eqb mt mt_response) (with_values (values_by gid oid b n) n) n
put_by junk n = n

abbrev pub put_all : List Octets → Diary → Diary
put_all [] n = n
put_all (p ∷ ps) n = put_all ps (put_by (meaning p) n)

-- a call that is taken, where ps are the packets that it puts on the up wire
abbrev pub noted : Call → List Octets → Diary → Diary
noted (fresh m) ps n = first_page
noted power ps n = first_page
noted (command gid oid m) ps n = record { gid = gid; oid = oid; payload = m; values = n.values }
noted (send c m) ps n = n
noted (push c) ps n = n
noted down ps n = put_all ps n
noted (consume c) ps n = n
noted credit ps n = n
noted (air m) ps n = n
noted reply ps n = n
noted up ps n = n
noted (report c) ps n = n

abbrev pub noted_as : Result → Call → List Octets → Diary → Diary
noted_as taken c ps n = noted c ps n
noted_as (refused k) c ps n = n

abbrev pub note : Event → Diary → Diary
note e n = noted_as e.answer e.call e.to_up n

unfoldable pub diary : List Event → Diary → Diary
diary [] n = n
diary (e ∷ es) n = diary es (note e n)

-- the diary of a list from fresh on
abbrev pub diary_of : List Event → Diary
diary_of es = diary es first_page

-- ---- the claim

-- of the diary n of a list of calls, and of the contents b of an OK response to a get
pub record Shows (n : Diary) (b : Octets) : Type 0 where
  -- it answers the last command that was taken
  pub answers : (n.gid ≡ gid_core) × (n.oid ≡ oid_get_config)
  -- ID, length and the diary's value for each parameter asked, in the order asked, and nothing else
  pub shows : b ≡ status_ok ∷ count_in n.payload ∷ showing n.values n.payload (count_in n.payload)

-- and of the contents b of a response to a set that set something
pub record Lists (n : Diary) (b : Octets) : Type 0 where
  pub answers : (n.gid ≡ gid_core) × (n.oid ≡ oid_set_config)
  -- it lists exactly the parameters that the diary does not take for accepted
  pub lists : b ≡ set_rsp n.payload

-- the response with this OID, if one is first among the packets ps, has such contents
abbrev pub Responds : ℕ → List Octets → (Octets → Type 0) → Type 0
Responds oid ps P = (p : Octets) (behind : List Octets) (b : Octets) → ps ≡ p ∷ behind → meaning p ≡ control mt_response gid_core oid (last b) → P b

-- of the packets ps that the next down puts on the up wire
pub record ConfigTold (ps : List Octets) (n : Diary) : Type 0 where
  pub shown : Responds oid_get_config ps (λ b. get_or b 0 0 ≡ status_ok → Shows n b)
  pub listed : Responds oid_set_config ps (λ b. is_set (get_or b 0 0) ≡ true → Lists n b)

-- with s the bench after the calls
abbrev pub ConfigClaim : State → Diary → Type 0
ConfigClaim s n = ConfigTold (step down s).effect.to_up n

-- for every profile that fresh takes and every list of calls
abbrev pub AllConfigs : Type 0
AllConfigs =
    (profile : Octets) → profile_octets_ok profile ≡ true → (calls : List Call)
    → ConfigClaim (after calls (cold (profile_in profile))) (diary_of (events calls (cold (profile_in profile))))
