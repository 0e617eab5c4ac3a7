-- The state of the model that a record and an area stand for: each wire and store is the packets of its ring, each message in
-- hand the segments still to go, each run the octets so far.
-- Assumes nothing.
use Rattle.std.specs.Prelude.{ℕ, ◌+◌, ◌-◌, List, [], eqb}
use Rattle.octets.specs.Octets.{Octets, pick, cut}
use Rattle.packets.specs.Segments.{Segment, segments}
use Rattle.packets.specs.Reassembly.{Run, run, lost}
use Rattle.views.specs.Kinds.{Progress, Hand, HostSide, ControllerSide, Counts, Record}
use Rattle.views.specs.Kinds as kinds
use Rattle.state.specs.Conn.{place_of, counts_of}
use Rattle.area.specs.Map.{payload_size, wire_slots, store_slots, down_at, up_at, store_at, hand_at, endpoint_at, host_run_at, controller_run_at, asking_at, hearing_at}
use Rattle.area.specs.Ring.{packets_in}
use Rattle.record.specs.Layout.{config_octets}
use Rattle.record.specs.Reading.{decode_of}
use Rattle.model.specs.Connection.{HostEnd, ControllerEnd, Connection}
use Rattle.model.specs.State.{ControlRun, State}

-- ---- parts

-- the segments still to go of a message in hand that lies from base on and is cut at a size
unfoldable pub hand_of : ℕ → ℕ → Octets → Hand → List Segment
hand_of base size a h = pick h.full (segments size (cut (base + h.at) (h.len - h.at) a)) []

-- the octets so far of a run that lies from base on
unfoldable pub run_of : ℕ → Octets → Progress → Run
run_of base a p = pick p.lost lost (run (cut base p.len a))

abbrev pub control_run_of : ℕ → Octets → kinds.ControlRun → ControlRun
control_run_of base a r = record { mt = r.mt; gid = r.gid; oid = r.oid; run = run_of base a r.run }

-- ---- one connection, by its place

abbrev pub host_of : ℕ → Octets → HostSide → HostEnd
host_of place a h =
    record {
      opened = h.opened;
      payload = h.payload;
      grant = h.grant;
      held = h.held;
      hand = hand_of (hand_at place) h.payload a h.hand;
      run = run_of (host_run_at place) a h.run;
    }

-- speech: what is still to go of the endpoint's message
abbrev pub controller_of : ℕ → Octets → ControllerSide → List Segment → ControllerEnd
controller_of place a k speech =
    record {
      opened = k.opened;
      grant = k.grant;
      owed = k.owed;
      store = packets_in (store_at place) store_slots a k.store;
      run = run_of (controller_run_at place) a k.run;
      speech = speech;
    }

abbrev pub connection_of : ℕ → Octets → Counts → List Segment → Connection
connection_of place a k speech = record { host = host_of place a k.host; controller = controller_of place a k.controller speech }

-- ---- the bench

-- the endpoint speaks on connection 0, in segments as long as a payload can be
abbrev pub speech_of : Octets → Hand → ℕ → List Segment
speech_of a h c = pick (eqb 0 c) (hand_of endpoint_at payload_size a h) []

-- by Conn ID; an ID that no connection has is a closed one
abbrev pub conns_of : Octets → Hand → List Counts → ℕ → Connection
conns_of a h conns c = connection_of (place_of c) a (counts_of conns c) (speech_of a h c)

abbrev pub down_of : Octets → Record → List Octets
down_of a r = packets_in down_at wire_slots a r.down

abbrev pub up_of : Octets → Record → List Octets
up_of a r = packets_in up_at wire_slots a r.up

abbrev pub view : Octets → Record → State
view a r =
    record {
      profile = r.ends.profile;
      host = r.ends.host;
      controller = r.ends.controller;
      hearing = control_run_of hearing_at a r.ends.hearing;
      asking = control_run_of asking_at a r.ends.asking;
      conns = conns_of a r.ends.endpoint r.ends.conns;
      down = down_of a r;
      up = up_of a r;
      config = config_octets a;
    }

-- the state that an area stands for, by its own record
abbrev pub view_of : Octets → State
view_of a = view a (decode_of a)
