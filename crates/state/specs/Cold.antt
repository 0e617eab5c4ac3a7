-- Both ends cold: what fresh and power leave.
-- Assumes nothing.
use Rattle.std.specs.Prelude.{[], ◌∷◌, None}
use Rattle.state.specs.Kinds.{Profile, ControlRun, Host, Controller, Ends}
use Rattle.state.specs.Kinds.rf.{Idle}
use Rattle.state.specs.Kinds.phase.{Cold}
use Rattle.state.specs.Conn.{start, empty, closed_counts}
use Rattle.state.specs.Radio.{no_pairs}
use Rattle.state.specs.Profile.{least_size}

abbrev pub cold_host : Host
cold_host = record { size = least_size; pending = None }

abbrev pub cold_controller : Controller
cold_controller = record { phase = Cold; given = 0; rf = Idle; pairs = no_pairs }

-- no control message under way
abbrev pub cold_run : ControlRun
cold_run = record { mt = 0; gid = 0; oid = 0; run = start }

abbrev pub cold_ends : Profile → Ends
cold_ends p =
    record {
      profile = p;
      host = cold_host;
      hearing = cold_run;
      controller = cold_controller;
      asking = cold_run;
      endpoint = empty;
      conns = closed_counts ∷ closed_counts ∷ closed_counts ∷ closed_counts ∷ closed_counts ∷ [];
    }
