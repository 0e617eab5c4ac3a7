-- What holds of every bench that a list of calls from a fresh one makes.
-- Assumes nothing.
use Rattle.std.specs.Prelude.{ℕ, ◌+◌, ◌≤◌, ◌≡◌, ◌⊎◌, Bool, true, false, ◌||◌, List, [], ◌∷◌, ◌++◌, length, Some}
use Rattle.octets.specs.Octets.{Octets}
use Rattle.model.specs.Kinds.{Header}
use Rattle.model.specs.Kinds.way as way
use Rattle.packets.specs.Packet.{read_of}
use Rattle.packets.specs.Reserved.{rfu_by}
use Rattle.packets.specs.Segments.{Segment, more, last, body}
use Rattle.packets.specs.Reassembly.{Run, run, lost}
use Rattle.state.specs.Conn.{terms_of}
use Rattle.state.specs.Profile.{credits_ok, profile_in, profile_octets_ok, TermsWithin, ProfileWithin}
use Rattle.dh.specs.Host.{aim_of}
use Rattle.model.specs.Connection.{HostEnd, ControllerEnd, closed}
use Rattle.wires.specs.Meaning.{Meaning, datum, control, junk, meaning}
use Rattle.model.specs.State.{State, cold}
use Rattle.model.specs.Effects.{Call, taken}
use Rattle.model.specs.Refusals.{first, no_conn}
use Rattle.model.specs.calls.Consume.{is_loop}
use Rattle.ends.specs.Changes.{Change, stays, opens, closes, gives}
use Rattle.model.specs.Bench.{rules}
use Rattle.model.specs.Grants.{past_grant}
use Rattle.model.specs.Observer.{after, change_in}

-- a statement of every bench that calls make, whatever profile `fresh` took
abbrev pub Always : (State → Type 0) → Type 0
Always P = (profile : Octets) → profile_octets_ok profile ≡ true → (calls : List Call) → P (after calls (cold (profile_in profile)))

-- ---- terms

-- where a connection is open it has the grant that the profile has for its Conn ID, at either end, and at the host the payload
pub record OwnTerms (s : State) : Type 0 where
  pub payload : (d : ℕ) → (s.conns d).host.opened ≡ true → (s.conns d).host.payload ≡ (terms_of s.profile d).payload
  pub host_grant_law : (d : ℕ) → (s.conns d).host.opened ≡ true → (s.conns d).host.grant ≡ (terms_of s.profile d).credits
  pub grant : (d : ℕ) → (s.conns d).controller.opened ≡ true → (s.conns d).controller.grant ≡ (terms_of s.profile d).credits

-- ---- credits within the grant

-- what number 13 asked never holds of a call that is taken
abbrev pub NeverPast : State → Type 0
NeverPast s = (c : Call) → first (rules c s) ≡ taken → past_grant c s ≡ false

-- ---- credits owed

-- a loopback owes nothing between calls, since what is consumed goes up with its credit; so a notice is for connection 0 alone
abbrev pub LoopbacksPaid : State → Type 0
LoopbacksPaid s = (d : ℕ) → is_loop d ≡ true → (s.conns d).controller.owed ≡ 0

-- ---- sizes

-- the octets of the segments of a message in hand
abbrev pub octets_in : List Segment → ℕ
octets_in [] = 0
octets_in (x ∷ ss) = length (body x) + octets_in ss

-- a run within its limit; one that is lost holds nothing
abbrev pub RunWithin : ℕ → Run → Type 0
RunWithin limit (run r) = length r ≤ limit
RunWithin limit lost = Unit {0}

-- a connection at the host: 1,024 octets in hand and in reassembly, no more credits than granted
pub record HostSizes (h : HostEnd) : Type 0 where
  pub hand : octets_in h.hand ≤ 1024
  pub reassembly : RunWithin 1024 h.run
  pub credits : h.held ≤ h.grant
  pub terms : h.opened ≡ true → TermsWithin h.payload h.grant

-- at the controller: 8 packets stored, 1,024 octets of the endpoint's message still to go, no more credits owed than granted
pub record ControllerSizes (k : ControllerEnd) : Type 0 where
  pub stored : length k.store ≤ 8
  pub speech : octets_in k.speech ≤ 1024
  pub reassembly : RunWithin 1024 k.run
  pub credits : k.owed ≤ k.grant
  pub terms : k.opened ≡ true → credits_ok k.grant ≡ true

pub record Sizes (s : State) : Type 0 where
  pub profile : ProfileWithin s.profile
  -- 16 packets on each wire
  pub down : length s.down ≤ 16
  pub up : length s.up ≤ 16
  pub host : (d : ℕ) → HostSizes (s.conns d).host
  pub controller : (d : ℕ) → ControllerSizes (s.conns d).controller
  -- every connection but the five is closed at both ends, and holds nothing
  pub others : (d : ℕ) → no_conn d ≡ true → s.conns d ≡ closed
  -- the host's commands have segments of 32-255 octets
  pub command_least : 32 ≤ s.host.size
  pub command_most : s.host.size ≤ 255
  -- 255 octets of a control message at either end
  pub hearing : RunWithin 255 s.hearing.run
  pub asking : RunWithin 255 s.asking.run
  -- the Conn ID last given: none, or 2-5
  pub given : (s.controller.given ≡ 0) ⊎ ((2 ≤ s.controller.given) × (s.controller.given ≤ 5))
  -- 8 pairs, of 8 places
  pub pairs : s.controller.pairs.count ≤ 8
  pub places : length s.controller.pairs.list ≡ 8

-- ---- packets on the wires

-- p is read as a packet: three octets of header and the payload, 258 octets at most
pub record WellFormed (p : Octets) : Type 0 where
  pub header : Header
  pub size : ℕ
  pub reads : read_of p ≡ Some (header, size)
  pub whole : length p ≡ 3 + size
  pub most : length p ≤ 258

-- going down: data of one of the five connections, without credits, or a segment of a command
abbrev pub GoesDown : Meaning → Type 0
GoesDown (datum c n x) = (no_conn c ≡ false) × (n ≡ 0)
GoesDown (control mt gid oid x) = mt ≡ 1
GoesDown junk = ⊥

-- going up: data of one of the five connections, or a whole response or notification
abbrev pub GoesUp : Meaning → Type 0
GoesUp (datum c n x) = no_conn c ≡ false
GoesUp (control mt gid oid (more b)) = ⊥
GoesUp (control mt gid oid (last m)) = (mt ≡ 2) ⊎ (mt ≡ 3)
GoesUp junk = ⊥

abbrev pub Each : (Octets → Type 0) → List Octets → Type 0
Each P [] = Unit {0}
Each P (p ∷ w) = P p × Each P w

pub record Wires (s : State) : Type 0 where
  pub down : Each (λ p. WellFormed p) s.down
  pub down_kinds : Each (λ p. GoesDown (meaning p)) s.down
  pub up : Each (λ p. WellFormed p) s.up
  pub up_kinds : Each (λ p. GoesUp (meaning p)) s.up
  -- no sender leaves a reserved bit at 1
  pub down_rfu : Each (λ p. rfu_by way.Down (read_of p) ≡ 0) s.down
  pub up_rfu : Each (λ p. rfu_by way.Up (read_of p) ≡ 0) s.up

-- ---- data on the up wire

-- what becomes of a connection at the host, b being whether it is open
abbrev pub opened_by : Change → Bool → Bool
opened_by stays b = b
opened_by (opens t) b = true
opened_by closes b = false
opened_by (gives n) b = b

-- whether connection c is open at the host once it has read packets, where b is whether it is open before, and `aim` the connection
-- that its unanswered command named
abbrev pub open_after : ℕ → ℕ → Bool → List Octets → Bool
open_after aim c b [] = b
open_after aim c b (p ∷ w) = open_after aim c (opened_by (change_in aim c (meaning p)) b) w

-- one of the packets opens connection c
abbrev pub is_opening : Change → Bool
is_opening stays = false
is_opening (opens t) = true
is_opening closes = false
is_opening (gives n) = false

abbrev pub opens_in : ℕ → ℕ → List Octets → Bool
opens_in aim c [] = false
opens_in aim c (p ∷ w) = is_opening (change_in aim c (meaning p)) || opens_in aim c w

-- of a packet p of data for connection c, with others before and behind it on the up wire
pub record DataOpen (s : State) : Type 0 where
  -- once the host has read those before it, the connection is open at the host
  pub then_open : (before : List Octets) (p : Octets) (behind : List Octets) (c n : ℕ) (x : Segment) → s.up ≡ before ++ (p ∷ behind) → meaning p ≡ datum c n x
      → open_after (aim_of s.host.pending) c (s.conns c).host.opened before ≡ true
  -- so it is open at the host now, or its opening lies before the data
  pub open_or_opening : (before : List Octets) (p : Octets) (behind : List Octets) (c n : ℕ) (x : Segment) → s.up ≡ before ++ (p ∷ behind) → meaning p ≡ datum c n x
      → ((s.conns c).host.opened ≡ true) ⊎ (opens_in (aim_of s.host.pending) c before ≡ true)
