-- The state of the bench: both ends, and each wire as a list of packets (document 01, "Profile, record and area").
-- Assumes nothing.
use Rattle.std.specs.Prelude.{ℕ, Bool, List, [], eqb}
use Rattle.octets.specs.Octets.{Octets, pick}
use Rattle.packets.specs.Reassembly.{Run, run}
use Rattle.model.specs.Kinds.{Profile, Host, Controller}
use Rattle.config.specs.Stored.{defaults}
use Rattle.state.specs.Cold.{cold_host, cold_controller}
use Rattle.model.specs.Connection.{Connection, closed}

-- ---- the state

-- a run of control packets at one end: which message it is, and its octets so far
pub record ControlRun : Type 0 where
  pub mt : ℕ
  pub gid : ℕ
  pub oid : ℕ
  pub run : Run

pub record State : Type 0 where
  pub profile : Profile
  pub host : Host
  pub controller : Controller
  -- the control run at the host, and at the controller
  pub hearing : ControlRun
  pub asking : ControlRun
  -- by Conn ID
  pub conns : ℕ → Connection
  pub down : List Octets
  pub up : List Octets
  -- the values of the controller's configuration parameters, as octets
  pub config : Octets

abbrev pub is_open : State → ℕ → Bool
is_open s c = (s.conns c).controller.opened

-- one connection is changed
abbrev pub at : {A : Type 0} → ℕ → (A → A) → (ℕ → A) → ℕ → A
at c f g d = pick (eqb c d) (f (g d)) (g d)

abbrev pub with_conns : (ℕ → Connection) → State → State
with_conns g s = record { profile = s.profile; host = s.host; controller = s.controller; hearing = s.hearing; asking = s.asking; conns = g; down = s.down; up = s.up; config = s.config }

abbrev pub with_down : List Octets → State → State
with_down w s = record { profile = s.profile; host = s.host; controller = s.controller; hearing = s.hearing; asking = s.asking; conns = s.conns; down = w; up = s.up; config = s.config }

abbrev pub with_up : List Octets → State → State
with_up w s = record { profile = s.profile; host = s.host; controller = s.controller; hearing = s.hearing; asking = s.asking; conns = s.conns; down = s.down; up = w; config = s.config }

abbrev pub with_host_state : Host → State → State
with_host_state h s = record { profile = s.profile; host = h; controller = s.controller; hearing = s.hearing; asking = s.asking; conns = s.conns; down = s.down; up = s.up; config = s.config }

abbrev pub with_controller_state : Controller → State → State
with_controller_state k s = record { profile = s.profile; host = s.host; controller = k; hearing = s.hearing; asking = s.asking; conns = s.conns; down = s.down; up = s.up; config = s.config }

abbrev pub with_hearing : ControlRun → State → State
with_hearing r s = record { profile = s.profile; host = s.host; controller = s.controller; hearing = r; asking = s.asking; conns = s.conns; down = s.down; up = s.up; config = s.config }

abbrev pub with_asking : ControlRun → State → State
with_asking r s = record { profile = s.profile; host = s.host; controller = s.controller; hearing = s.hearing; asking = r; conns = s.conns; down = s.down; up = s.up; config = s.config }

abbrev pub with_config : Octets → State → State
with_config b s = record { profile = s.profile; host = s.host; controller = s.controller; hearing = s.hearing; asking = s.asking; conns = s.conns; down = s.down; up = s.up; config = b }

-- ---- both ends cold, both wires empty, all parameters at their defaults

abbrev pub no_run : ControlRun
no_run = record { mt = 0; gid = 0; oid = 0; run = run [] }

abbrev pub cold : Profile → State
cold p = record { profile = p; host = cold_host; controller = cold_controller; hearing = no_run; asking = no_run; conns = λ c. closed; down = []; up = []; config = defaults }
