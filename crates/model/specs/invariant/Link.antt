-- The invariant of demand 3, third part: one connection, in two halves. Numbers: the two ends' and the observer's counts agree. Pipes:
-- the segments under way are the messages still to be handed out. k is the connection, d the segments going down for it, u the items
-- going up for it, l its ledger; on a loopback what is consumed comes up again.
-- Assumes nothing.
use Rattle.std.specs.Prelude.{ℕ, ◌+◌, ◌≤◌, Bool, true, false, List, [], ◌∷◌, ◌++◌, ◌≡◌, length}
use Rattle.octets.specs.Octets.{pick}
use Rattle.packets.specs.Segments.{Segment}
use Rattle.packets.specs.Reassembly.{Run, run, Flow}
use Rattle.state.specs.Conn.{flows}
use Rattle.state.specs.Runs.{data_limit}
use Rattle.model.specs.Connection.{Connection}
use Rattle.model.specs.Observer.{HostCount, ControllerCount, Talk, Ledger}
use Rattle.model.specs.invariant.Items.{Item, carry, credit, opened, closed, store_segs, up_segs, up_credits, up_returned}
use Rattle.model.specs.invariant.Phases.{walk, start, Ends}

-- ---- numbers

-- the numbers of a connection, side by side
pub record Figures : Type 0 where
  -- at the host: whether it is open, its grant, the credits held
  pub there : Bool
  pub host_grant : ℕ
  pub held : ℕ
  -- data packets on the down wire
  pub down : ℕ
  -- at the controller: whether it is open, its grant, the packets stored, the credits owed
  pub here : Bool
  pub grant : ℕ
  pub stored : ℕ
  pub owed : ℕ
  -- what the observer has counted
  pub host_count : HostCount
  pub controller_count : ControllerCount

abbrev pub figures : Connection → List Segment → Ledger → Figures
figures k d l =
    record {
      there = k.host.opened;
      host_grant = k.host.grant;
      held = k.host.held;
      down = length d;
      here = k.controller.opened;
      grant = k.controller.grant;
      stored = length k.controller.store;
      owed = k.controller.owed;
      host_count = l.host;
      controller_count = l.controller;
    }

-- the observer's counts at the host, which has the connection open or not with the grant g and n credits
pub record HostCounts (there : Bool) (g n : ℕ) (c : HostCount) : Type 0 where
  -- it knows whether it is open, and with which grant
  pub opened : c.opened ≡ there
  pub granted : there ≡ true → c.grant ≡ g
  -- what is held is what was granted and read, less what was pushed
  pub flow : there ≡ true → flows g ≡ true → n + c.pushed ≡ g + c.read

-- the observer's counts at the controller, which has the connection open with the grant g, n packets stored and w credits owed
pub record ControllerCounts (g n w : ℕ) (c : ControllerCount) : Type 0 where
  -- it knows the grant
  pub granted : c.grant ≡ g
  -- what is stored is what arrived and was not consumed
  pub stored : n + c.consumed ≡ c.arrived
  -- what is owed is what was consumed and not put in a notice
  pub owed : flows g ≡ true → w + c.noticed ≡ c.consumed

-- every opening under way has the grant g
abbrev pub AllOpened : ℕ → List Item → Type 0
AllOpened g [] = Unit {0}
AllOpened g (carry x ∷ is) = AllOpened g is
AllOpened g (credit n ∷ is) = AllOpened g is
AllOpened g (opened t ∷ is) = (t.credits ≡ g) × AllOpened g is
AllOpened g (closed ∷ is) = AllOpened g is

-- the host has, or is about to read, the grant that the controller gave
pub record Agreed (there : Bool) (h g : ℕ) (u : List Item) : Type 0 where
  pub same : there ≡ true → h ≡ g
  pub under_way : AllOpened g u

-- no more is held or owed than can be: the host has it open or not with the grant h and n credits, the controller has it open or not with
-- the grant g and owes w
pub record Debts (there : Bool) (h n : ℕ) (here : Bool) (g w : ℕ) (u : List Item) : Type 0 where
  -- what is held, with what is on its way back, is within the grant
  pub bound : n + up_returned u ≤ h
  -- where it is not open at the host nothing is granted, so nothing is held
  pub granted : there ≡ false → h ≡ 0
  -- a grant is an octet
  pub octet : h ≤ 255
  -- without flow control nothing is owed
  pub spare : flows g ≡ false → w ≡ 0
  -- nor where it is not open at the controller
  pub asleep : here ≡ false → w ≡ 0

-- what holds while the controller has it open
pub record Balance (n : Figures) (u : List Item) : Type 0 where
  -- under flow control credits held, packets down, packets stored, credits owed and credits coming up sum to the grant
  pub sum : flows n.grant ≡ true → n.held + n.down + n.stored + n.owed + up_credits u ≡ n.grant
  pub terms : Agreed n.there n.host_grant n.grant u
  pub counts : ControllerCounts n.grant n.stored n.owed n.controller_count

pub record Numbers (n : Figures) (u : List Item) : Type 0 where
  -- the observer knows whether the controller has it open
  pub opened : n.controller_count.opened ≡ n.here
  pub counts : HostCounts n.there n.host_grant n.held n.host_count
  -- what lies on the up wire leads from the host's state to the controller's
  pub phase : Ends (walk (start n.there) u) n.here
  pub debts : Debts n.there n.host_grant n.held n.here n.grant n.owed u
  pub live : n.here ≡ true → Balance n u

-- ---- pipes

-- the messages of a connection under way, side by side
pub record Ways : Type 0 where
  -- at the host: whether it is open, the segments in hand, reassembly
  pub there : Bool
  pub hand : List Segment
  pub host_run : Run
  -- the segments on the down wire
  pub down : List Segment
  -- at the controller: whether it is open, the segments stored, reassembly, the endpoint's segments still to go
  pub here : Bool
  pub stored : List Segment
  pub controller_run : Run
  pub speech : List Segment
  -- the segments on the up wire
  pub up : List Segment
  -- the messages that were taken and handed out
  pub talk : Talk

abbrev pub ways : Connection → List Segment → List Item → Ledger → Ways
ways k d u l =
    record {
      there = k.host.opened;
      hand = k.host.hand;
      host_run = k.host.run;
      down = d;
      here = k.controller.opened;
      stored = store_segs k.controller.store;
      controller_run = k.controller.run;
      speech = k.controller.speech;
      up = up_segs u;
      talk = l.talk;
    }

-- what goes down to the controller's reassembly: stored, on the wire, in hand
abbrev pub below : Ways → List Segment
below w = w.stored ++ (w.down ++ w.hand)

-- what comes up to the host, behind what is on the wire: on a loopback what went down, else the endpoint's messages
abbrev pub source : Bool → Ways → List Segment
source loop w = pick loop (below w) w.speech

pub record Pipes (loop : Bool) (w : Ways) : Type 0 where
  -- where it is not open at the host, nothing is in hand nor in reassembly there
  pub hand : w.there ≡ false → w.hand ≡ []
  pub reassembly : w.there ≡ false → w.host_run ≡ run []
  -- where it is not open at the controller, the endpoint has nothing to say
  pub speech : w.here ≡ false → w.speech ≡ []
  -- while it is open there, the segments going down are the messages sent and not yet handed out at the controller,
  pub to_controller : w.here ≡ true → Flow data_limit w.controller_run (below w) w.talk.sent w.talk.out_controller
  -- and those going up the messages sent, or spoken, and not yet handed out at the host
  pub to_host : w.here ≡ true → Flow data_limit w.host_run (w.up ++ source loop w) (pick loop w.talk.sent w.talk.spoken) w.talk.out_host

-- ---- both

pub record Good (loop : Bool) (k : Connection) (d : List Segment) (u : List Item) (l : Ledger) : Type 0 where
  pub numbers : Numbers (figures k d l) u
  pub pipes : Pipes loop (ways k d u l)
