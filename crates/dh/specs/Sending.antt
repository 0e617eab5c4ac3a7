-- The host's own steps, by its numbers: a message is put in hand, the next packet of it goes, a command is given. Each says what the step
-- leaves; whether it may be taken is asked before it.
-- Assumes nothing.
use Rattle.std.specs.Prelude.{ℕ, ◌-◌, Some}
use Rattle.octets.specs.Octets.{Octets, pick}
use Rattle.state.specs.Conn.{flows, hand_with, hand_after}
use Rattle.dh.specs.Kinds.{Host, HostSide}
use Rattle.dh.specs.Host.{asked_of}

-- ---- a connection

-- a message of n octets is in hand
abbrev pub sent_side : ℕ → HostSide → HostSide
sent_side n h =
    record { opened = h.opened; payload = h.payload; grant = h.grant; held = h.held; hand = hand_with n; run = h.run }

-- a packet has gone, and a credit is spent if flow-controlled
abbrev pub pushed_side : HostSide → HostSide
pushed_side h =
    record {
      opened = h.opened;
      payload = h.payload;
      grant = h.grant;
      held = pick (flows h.grant) (h.held - 1) h.held;
      hand = hand_after h.payload h.hand;
      run = h.run;
    }

-- ---- the host

-- the command is unanswered
abbrev pub commanded_host : Host → ℕ → ℕ → Octets → Host
commanded_host h gid oid m = record { size = h.size; pending = Some (asked_of gid oid m) }
