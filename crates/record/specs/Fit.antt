-- The bounds of a record that can be: row 1 of document 01, "Numbers for a call not taken", as facts about numbers. Row 1 is both: `Fit`, which every call
-- needs and keeps, and `Granted`, which no call needs and credits past the grant do not keep.
-- Assumes nothing.
use Rattle.std.specs.Prelude.{ℕ, ◌≤◌, ◌<◌, ◌≡◌, true, List, length, get_or}
use Rattle.record.specs.Kinds.{Hand, Ring, Counts, Record, Profile, ControlRun, Controller, Host, Ends}
use Rattle.state.specs.Conn.{closed_counts}
use Rattle.state.specs.Profile.{least_size, ProfileWithin}
use Rattle.area.specs.Map.{wire_slots, store_slots, message_size, control_size, places}
use Rattle.record.specs.Layout.{pairs_room}

-- the lengths that the types of the code give its arrays
pub record Shape (r : Record) : Type 0 where
  pub pairs : length r.ends.controller.pairs.list ≡ pairs_room
  pub conns : length r.ends.conns ≡ places

-- ---- bounds

-- a ring of so many slots
pub record FitRing (slots : ℕ) (k : Ring) : Type 0 where
  pub head : k.head < slots
  pub count : k.count ≤ slots

-- a message in hand
pub record FitHand (h : Hand) : Type 0 where
  pub len : h.len ≤ message_size
  pub at : h.at ≤ h.len

-- a connection
pub record FitCounts (c : Counts) : Type 0 where
  pub payload : c.host.opened ≡ true → 1 ≤ c.host.payload
  pub hand : FitHand c.host.hand
  pub host_run_law : c.host.run.len ≤ message_size
  pub store : FitRing store_slots c.controller.store
  pub controller_run_law : c.controller.run.len ≤ message_size

-- the controller's own numbers
pub record FitController (k : Controller) : Type 0 where
  pub pairs : k.pairs.count ≤ pairs_room
  pub given : (k.given ≡ 0 → ⊥) → (2 ≤ k.given) × (k.given ≤ 5)

-- what both ends have besides connections. It is said of the parts, so that what changes connections alone keeps it.
pub record FitParts (p : Profile) (h : Host) (hears : ControlRun) (k : Controller) (asks : ControlRun) (says : Hand) : Type 0 where
  pub profile : ProfileWithin p
  pub size : least_size ≤ h.size
  pub hearing : hears.run.len ≤ control_size
  pub controller : FitController k
  pub asking : asks.run.len ≤ control_size
  pub endpoint : FitHand says

abbrev pub FitEnds : Ends → Type 0
FitEnds e = FitParts e.profile e.host e.hearing e.controller e.asking e.endpoint

-- every connection, by place
abbrev pub Each : (Counts → Type 0) → List Counts → Type 0
Each P l = (p : ℕ) → p < places → P (get_or l p closed_counts)

pub record Fit (r : Record) : Type 0 where
  pub down : FitRing wire_slots r.down
  pub up : FitRing wire_slots r.up
  pub own : FitEnds r.ends
  pub conns : Each FitCounts r.ends.conns

-- ---- credits within the grant

pub record GrantedCounts (c : Counts) : Type 0 where
  pub held : c.host.held ≤ c.host.grant
  pub owed : c.controller.owed ≤ c.controller.grant

abbrev pub Granted : Record → Type 0
Granted r = Each GrantedCounts r.ends.conns
