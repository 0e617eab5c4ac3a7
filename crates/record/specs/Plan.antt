-- Records with one part changed, and the cold one: the plans that the calls stand on.
-- Assumes nothing.
use Rattle.std.specs.Prelude.{List}
use Rattle.record.specs.Kinds.{Profile, Host, Hand, Ring, HostSide, ControllerSide, Counts, Progress, ControlRun, Ends, Record}
use Rattle.state.specs.Conn.{empty_ring}
use Rattle.state.specs.Cold.{cold_ends}

-- ---- one part of the record

abbrev pub with_down : Ring → Record → Record
with_down k r = record { ends = r.ends; down = k; up = r.up }

abbrev pub with_up : Ring → Record → Record
with_up k r = record { ends = r.ends; down = r.down; up = k }

abbrev pub with_ends : Ends → Record → Record
with_ends e r = record { ends = e; down = r.down; up = r.up }

abbrev pub with_conns : List Counts → Record → Record
with_conns conns r =
    with_ends
    (record {
      profile = r.ends.profile;
      host = r.ends.host;
      hearing = r.ends.hearing;
      controller = r.ends.controller;
      asking = r.ends.asking;
      endpoint = r.ends.endpoint;
      conns = conns;
    })
    r

abbrev pub with_endpoint : Hand → Record → Record
with_endpoint h r =
    with_ends
    (record {
      profile = r.ends.profile;
      host = r.ends.host;
      hearing = r.ends.hearing;
      controller = r.ends.controller;
      asking = r.ends.asking;
      endpoint = h;
      conns = r.ends.conns;
    })
    r

-- the host's own numbers
abbrev pub with_host_state : Host → Record → Record
with_host_state h r =
    with_ends
    (record {
      profile = r.ends.profile;
      host = h;
      hearing = r.ends.hearing;
      controller = r.ends.controller;
      asking = r.ends.asking;
      endpoint = r.ends.endpoint;
      conns = r.ends.conns;
    })
    r

abbrev pub with_hearing : ControlRun → Record → Record
with_hearing k r =
    with_ends
    (record {
      profile = r.ends.profile;
      host = r.ends.host;
      hearing = k;
      controller = r.ends.controller;
      asking = r.ends.asking;
      endpoint = r.ends.endpoint;
      conns = r.ends.conns;
    })
    r

abbrev pub with_asking : ControlRun → Record → Record
with_asking k r =
    with_ends
    (record {
      profile = r.ends.profile;
      host = r.ends.host;
      hearing = r.ends.hearing;
      controller = r.ends.controller;
      asking = k;
      endpoint = r.ends.endpoint;
      conns = r.ends.conns;
    })
    r

-- both ends cold, both wires empty
abbrev pub cold_record : Profile → Record
cold_record p = record { ends = cold_ends p; down = empty_ring; up = empty_ring }

-- ---- one part of a connection's counts

abbrev pub with_hand : Hand → HostSide → HostSide
with_hand h k = record { opened = k.opened; payload = k.payload; grant = k.grant; held = k.held; hand = h; run = k.run }

abbrev pub with_host_run : Progress → HostSide → HostSide
with_host_run p k = record { opened = k.opened; payload = k.payload; grant = k.grant; held = k.held; hand = k.hand; run = p }

abbrev pub with_store : Ring → ControllerSide → ControllerSide
with_store s k = record { opened = k.opened; grant = k.grant; owed = k.owed; store = s; run = k.run }

abbrev pub with_controller_run : Progress → ControllerSide → ControllerSide
with_controller_run p k = record { opened = k.opened; grant = k.grant; owed = k.owed; store = k.store; run = p }
