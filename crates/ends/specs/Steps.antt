-- Both ends' numbers after what one of them takes: a command, a control message, an event of the air.
-- Assumes nothing.
use Rattle.std.specs.Prelude.{ℕ, ◌-◌, ◌≡◌, length, Option}
use Rattle.octets.specs.Octets.{Octets}
use Rattle.ends.specs.Kinds.{Ends, Event, Aired, Heard, Decision, Answered, Heeded, Met}
use Rattle.state.specs.Judgement.{Judgement}
use Rattle.state.specs.Conn.{open_at, held_open}
use Rattle.nfcc.specs.Controller.{judge_of, controller_after, conns_after, endpoint_after}
use Rattle.messages.specs.Layout.{Put, MayPut, response_message, notice_message}
use Rattle.air.specs.Air.{event_of, aired_by, controller_aired, conns_aired, endpoint_aired}
use Rattle.dh.specs.Host.{hear_of, host_after, conns_heard, drop_heard}

-- ---- the controller takes a command

abbrev pub ends_after : Ends → Judgement → Ends
ends_after e v =
    record {
      profile = e.profile;
      host = e.host;
      hearing = e.hearing;
      controller = controller_after e.controller v;
      asking = e.asking;
      endpoint = endpoint_after e.endpoint v;
      conns = conns_after e.conns v;
    }

abbrev pub verdict_of : Ends → ℕ → ℕ → Octets → Judgement
verdict_of e gid oid m = judge_of e.profile e.controller (open_at e.conns) gid oid m

abbrev pub decided : Ends → ℕ → ℕ → Octets → Decision
decided e gid oid m = record { verdict = verdict_of e gid oid m; next = ends_after e (verdict_of e gid oid m) }

-- what is answered to a command, b being the configuration before it, m its payload, d the decision, and the two buffers before and after it
pub record Answers (e : Ends) (gid oid : ℕ) (b m : Octets) (d : Decision) (r : Answered) (rsp ntf rspAfter ntfAfter : Octets) : Type 0 where
  pub decision : r.decision ≡ d
  pub response : Put rsp (response_message gid oid e.profile b m d.verdict) r.response rspAfter
  pub notice : MayPut ntf (notice_message d.verdict) r.notice ntfAfter

-- ---- the host takes a control message

abbrev pub ends_heard : Ends → Octets → Heard → Ends
ends_heard e m x =
    record {
      profile = e.profile;
      host = host_after e.host x;
      hearing = e.hearing;
      controller = e.controller;
      asking = e.asking;
      endpoint = e.endpoint;
      conns = conns_heard e.conns m x;
    }

abbrev pub heard_in : Ends → ℕ → ℕ → ℕ → Octets → Heard
heard_in e mt gid oid m = hear_of e.host.pending mt gid oid m

abbrev pub heeded : Ends → ℕ → ℕ → ℕ → Octets → Heeded
heeded e mt gid oid m =
    record {
      heard = heard_in e mt gid oid m;
      dropped = drop_heard (held_open e.conns) m (heard_in e mt gid oid m);
      next = ends_heard e m (heard_in e mt gid oid m);
    }

-- ---- an event of the air

-- n octets of the endpoint's message
abbrev pub ends_aired : Ends → Option Aired → ℕ → Ends
ends_aired e a n =
    record {
      profile = e.profile;
      host = e.host;
      hearing = e.hearing;
      controller = controller_aired e.controller a;
      asking = e.asking;
      endpoint = endpoint_aired e.endpoint a n;
      conns = conns_aired e.profile e.conns a;
    }

abbrev pub aired_in : Ends → Option Event → Option Aired
aired_in e x = aired_by e.controller.rf e.controller.pairs x

-- the message is what follows the octet for the kind
abbrev pub met : Ends → Octets → Met
met e m =
    record { event = event_of m; aired = aired_in e (event_of m); next = ends_aired e (aired_in e (event_of m)) (length m - 1) }
