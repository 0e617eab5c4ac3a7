-- One connection: what the host and the controller hold for it, and what each act does to it.
-- Assumes nothing.
use Rattle.std.specs.Prelude.{ℕ, ◌-◌, Bool, true, false, ◌&&◌, List, [], ◌∷◌, ◌++◌}
use Rattle.octets.specs.Octets.{Octets, pick}
use Rattle.packets.specs.Segments.{Segment, segments}
use Rattle.packets.specs.Reassembly.{Run, run, grown}
use Rattle.model.specs.Kinds.{Terms}
use Rattle.state.specs.Conn.{flows, credit_sum, owing, carriable}
use Rattle.state.specs.Runs.{data_limit}

-- at the host: the terms it was opened with, the credits held, the segments of the message in hand still to go, reassembly
pub record HostEnd : Type 0 where
  pub opened : Bool
  pub payload : ℕ
  pub grant : ℕ
  pub held : ℕ
  pub hand : List Segment
  pub run : Run

-- at the controller: the grant, the credits owed, the packets stored, reassembly; and, on connection 0, the segments of the
-- endpoint's message still to go
pub record ControllerEnd : Type 0 where
  pub opened : Bool
  pub grant : ℕ
  pub owed : ℕ
  pub store : List Octets
  pub run : Run
  pub speech : List Segment

pub record Connection : Type 0 where
  pub host : HostEnd
  pub controller : ControllerEnd

abbrev pub with_host : HostEnd → Connection → Connection
with_host h k = record { host = h; controller = k.controller }

abbrev pub with_controller : ControllerEnd → Connection → Connection
with_controller c k = record { host = k.host; controller = c }

-- ---- opening and closing; closing discards store, messages in hand and reassembly at that end

abbrev pub closed_host : HostEnd
closed_host = record { opened = false; payload = 0; grant = 0; held = 0; hand = []; run = run [] }

abbrev pub opened_host : Terms → HostEnd
opened_host t = record { opened = true; payload = t.payload; grant = t.credits; held = t.credits; hand = []; run = run [] }

abbrev pub closed_controller : ControllerEnd
closed_controller = record { opened = false; grant = 0; owed = 0; store = []; run = run []; speech = [] }

abbrev pub opened_controller : Terms → ControllerEnd
opened_controller t = record { opened = true; grant = t.credits; owed = 0; store = []; run = run []; speech = [] }

abbrev pub closed : Connection
closed = record { host = closed_host; controller = closed_controller }

-- ---- the host's acts

-- a message is put in hand, cut at the connection's payload
abbrev pub sent : Octets → HostEnd → HostEnd
sent m h =
    record { opened = h.opened; payload = h.payload; grant = h.grant; held = h.held; hand = segments h.payload m; run = h.run }

-- the first segment in hand has gone, and `rest` is left; a credit is spent if flow-controlled
abbrev pub pushed : List Segment → HostEnd → HostEnd
pushed rest h =
    record {
      opened = h.opened;
      payload = h.payload;
      grant = h.grant;
      held = pick (flows h.grant) (h.held - 1) h.held;
      hand = rest;
      run = h.run;
    }

-- a segment of data is read
abbrev pub heard_data : Segment → HostEnd → HostEnd
heard_data x h =
    record { opened = h.opened; payload = h.payload; grant = h.grant; held = h.held; hand = h.hand; run = grown data_limit h.run x }

-- credits are read: an octet's sum; for a connection that is not open or not flow-controlled they do nothing
abbrev pub credited : ℕ → HostEnd → HostEnd
credited n h =
    record {
      opened = h.opened;
      payload = h.payload;
      grant = h.grant;
      held = pick (h.opened && flows h.grant) (credit_sum h.held n) h.held;
      hand = h.hand;
      run = h.run;
    }

-- ---- the controller's acts

-- a packet is stored
abbrev pub stored : Octets → ControllerEnd → ControllerEnd
stored p c =
    record { opened = c.opened; grant = c.grant; owed = c.owed; store = c.store ++ (p ∷ []); run = c.run; speech = c.speech }

-- the oldest stored packet is consumed, and `rest` is left; a credit is owed if flow-controlled
abbrev pub consumed : List Octets → Run → ControllerEnd → ControllerEnd
consumed rest r c =
    record {
      opened = c.opened;
      grant = c.grant;
      owed = pick (flows c.grant) (credit_sum c.owed 1) c.owed;
      store = rest;
      run = r;
      speech = c.speech;
    }

-- what is owed, and nothing of a connection that is not open or not flow-controlled
abbrev pub owed_on : ControllerEnd → ℕ
owed_on c = owing c.opened c.grant c.owed

-- what a data packet going up carries of it
abbrev pub carried_on : ControllerEnd → ℕ
carried_on c = carriable (owed_on c)

-- n credits have gone up
abbrev pub less_owed : ℕ → ControllerEnd → ControllerEnd
less_owed n c = record { opened = c.opened; grant = c.grant; owed = c.owed - n; store = c.store; run = c.run; speech = c.speech }

-- a data packet has gone up: what it carries is no longer owed
abbrev pub paid : ControllerEnd → ControllerEnd
paid c = less_owed (carried_on c) c

-- all that is owed has been put in a notice; a field that counts for nothing stays as it was
abbrev pub noticed : ControllerEnd → ControllerEnd
noticed c =
    record {
      opened = c.opened;
      grant = c.grant;
      owed = pick (c.opened && flows c.grant) 0 c.owed;
      store = c.store;
      run = c.run;
      speech = c.speech;
    }

-- the endpoint has these segments still to send
abbrev pub spoken : List Segment → ControllerEnd → ControllerEnd
spoken ss c =
    record { opened = c.opened; grant = c.grant; owed = c.owed; store = c.store; run = c.run; speech = ss }
