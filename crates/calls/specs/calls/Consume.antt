-- consume on octets: the controller takes the oldest stored packet of a connection, its payload joins the controller's run, and a
-- message that it finishes is handed out. A credit is owed if flow-controlled; on a loopback the packet also goes up, unchanged but for
-- the credits that it carries.
-- Assumes nothing.
use Rattle.std.specs.Prelude.{ℕ, ◌+◌, ◌≤◌, ◌<◌, ◌≡◌, Bool, true, false, Some, None}
use Rattle.octets.specs.Octets.{Octets, pick, cut, splice}
use Rattle.packets.specs.Packet.{read_of, payload_of, carrying}
use Rattle.calls.specs.Kinds.{Reading, Progress, Joined, ControllerSide, Record}
use Rattle.state.specs.Conn as conn
use Rattle.state.specs.Conn.{place_of, counts_of, flows, credit_sum, carried_by, paid_side}
use Rattle.state.specs.Runs.{joined_of}
use Rattle.area.specs.Map.{slot_size, wire_slots, store_slots, message_size, places, up_at, store_at, controller_run_at}
use Rattle.area.specs.Ring.{first_at, free_at, took_from, put_into}
use Rattle.area.specs.Runs.{run_area}
use Rattle.record.specs.Reading.{decode_of}
use Rattle.record.specs.Claims.{saved}
use Rattle.record.specs.Fit.{FitRing}
use Rattle.record.specs.Plan.{with_up, with_conns}
use Rattle.views.specs.View.{view_of}
use Rattle.model.specs.calls.Consume.{is_loop, consume_rules}
use Rattle.calls.specs.Word.{word_of}
use Rattle.calls.specs.Outcome.{Outcome, outcome, called}

-- the connection at the controller
abbrev pub controller_side : Record → ℕ → ControllerSide
controller_side r c = (counts_of r.ends.conns c).controller

-- ---- the packet

-- where its slot starts, its octets there, and what the reader finds in them
abbrev pub oldest_at : Record → ℕ → ℕ
oldest_at r c = first_at (store_at (place_of c)) (controller_side r c).store

abbrev pub oldest : Record → ℕ → Octets → Octets
oldest r c a = cut (oldest_at r c) slot_size a

abbrev pub oldest_read : Record → ℕ → Octets → Reading
oldest_read r c a = read_of (oldest r c a)

-- ---- the record after it; next: how far the run is

abbrev pub consumed_side : Progress → ControllerSide → ControllerSide
consumed_side next k =
    record {
      opened = k.opened;
      grant = k.grant;
      owed = pick (flows k.grant) (credit_sum k.owed 1) k.owed;
      store = took_from store_slots k.store;
      run = next;
    }

-- and once the packet has gone up, if it goes: what it carries is no longer owed
abbrev pub echoed_side : Bool → ControllerSide → ControllerSide
echoed_side goes k =
    record {
      opened = k.opened;
      grant = k.grant;
      owed = pick goes (paid_side k).owed k.owed;
      store = k.store;
      run = k.run;
    }

abbrev pub consumed_conns : Record → ℕ → Progress → Record
consumed_conns r c next = with_conns (conn.with_controller r.ends.conns c (echoed_side (is_loop c) (consumed_side next (controller_side r c)))) r

abbrev pub consumed_record : Record → ℕ → Progress → Record
consumed_record r c next = with_up (pick (is_loop c) (put_into r.up) r.up) (consumed_conns r c next)

-- ---- the area after it: first the run grows, then the slot is copied. They have no octet in common.

abbrev pub consumed_run : Record → ℕ → ℕ → Octets → Octets
consumed_run r c n a = run_area message_size (controller_run_at (place_of c)) a (controller_side r c).run (payload_of (oldest r c a) n)

-- the credits that it carries, its own among them: how far the run is makes no difference
abbrev pub echoed_credits : Record → ℕ → ℕ
echoed_credits r c = carried_by (consumed_side (controller_side r c).run (controller_side r c))

abbrev pub echoed_slot : Record → ℕ → Octets → Octets
echoed_slot r c a = pick (is_loop c) (splice a (free_at up_at wire_slots r.up) (carrying (echoed_credits r c) (oldest r c a))) a

-- ---- its outcome, from the run after it: j, a message of len octets where it is done, and a, the area with it

-- past the message the buffer keeps its own
abbrev pub consumed_out : ℕ → Joined → ℕ → Octets → Octets → Octets
consumed_out c j len a out = pick j.done (splice out 0 (cut (controller_run_at (place_of c)) len a)) out

-- one packet is put on the up wire, on a loopback
abbrev pub consumed_word : ℕ → Joined → ℕ → ℕ
consumed_word c j len = word_of j.dropped j.done (pick j.done len 0) 0 (pick (is_loop c) 1 0)

abbrev pub consumed_as : Record → ℕ → Joined → ℕ → Octets → Octets → Outcome
consumed_as r c j len a out = outcome (consumed_word c j len) (saved (echoed_slot r c a) (consumed_record r c j.next)) (consumed_out c j len a out)

-- ---- by what the reader found; of a packet that it drops nothing joins the run

abbrev pub joined_by : Record → ℕ → Reading → Joined
joined_by r c (Some (h, n)) = joined_of message_size (controller_side r c).run h.pbf n
joined_by r c None = record { next = (controller_side r c).run; done = false; dropped = true }

abbrev pub consumed_by : Record → ℕ → Reading → Octets → Octets → Outcome
consumed_by r c (Some (h, n)) a out = consumed_as r c (joined_by r c (Some (h, n))) ((controller_side r c).run.len + n) (consumed_run r c n a) out
consumed_by r c None a out = consumed_as r c (joined_by r c None) 0 a out

abbrev pub consumed : Record → ℕ → Octets → Octets → Outcome
consumed r c a out = consumed_by r c (oldest_read r c a) a out

unfoldable pub consume_call : Octets → Octets → ℕ → Outcome
consume_call a out c = called (consume_rules c (view_of a)) (consumed (decode_of a) c a out) a out

-- ---- what is known of a record where no rule applies

pub record Consumable (r : Record) (c : ℕ) : Type 0 where
  pub place : place_of c < places
  pub free : is_loop c ≡ true → r.up.count < wire_slots
  pub ring : FitRing wire_slots r.up
  pub some : 0 < (controller_side r c).store.count
  pub store : FitRing store_slots (controller_side r c).store
  pub run : (controller_side r c).run.len ≤ message_size
