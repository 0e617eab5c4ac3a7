-- The invariant of demand 3, whole: every connection is good, and commands, data and answers stand in order on the wires. It holds of a
-- fresh bench, each call that is taken keeps it, and the claim follows from it (proofs/Trace.antt).
-- Assumes nothing.
use Rattle.std.specs.Prelude.{ℕ, ◌≤◌, ◌≡◌, ◌⊎◌, Bool, true, false, List, [], ◌++◌, eqb, length, Option, Some, None}
use Rattle.octets.specs.Octets.{Octets}
use Rattle.packets.specs.Segments.{Segment, more, last}
use Rattle.packets.specs.Reassembly.{run}
use Rattle.model.specs.Kinds.{Profile, Asked}
use Rattle.state.specs.Conn.{terms_of}
use Rattle.state.specs.Radio.{is_active}
use Rattle.state.specs.Runs.{control_limit}
use Rattle.state.specs.Profile.{ProfileWithin}
use Rattle.dh.specs.Contents.{written}
use Rattle.dh.specs.Host.{is_closing}
use Rattle.config.specs.Table.{config_size}
use Rattle.config.specs.Stored.{parameters_ok}
use Rattle.wires.specs.Meaning.{Meaning, datum, control, junk, meaning}
use Rattle.model.specs.Connection.{Connection}
use Rattle.model.specs.State.{State}
use Rattle.model.specs.Effects.{Call, fresh, power, command, send, push, down, consume, credit, air, reply, up, report, taken}
use Rattle.model.specs.Refusals.{no_conn, first}
use Rattle.model.specs.calls.Consume.{is_loop}
use Rattle.model.specs.Bench.{rules, act, judged}
use Rattle.model.specs.Observer.{Ledger, Account, Event, puts_down, puts_up, acted, event_of}
use Rattle.model.specs.Reachable.{Each}
use Rattle.model.specs.invariant.Items.{Item, items_of, segs_of}
use Rattle.model.specs.invariant.Link.{Good}
use Rattle.model.specs.invariant.Commands.{Name, heads, replies, pending_name, NoData, Tidy, Aims, OnItsWay}

-- the order of commands, data and answers: g the connections, w the down wire, ks the commands answered on the up wire, p the command
-- that the host has unanswered
pub record Order (g : ℕ → Connection) (w : List Octets) (ks : List Name) (p : Option Asked) : Type 0 where
  -- a dynamic connection that the controller has closed has no data on the down wire
  pub clear : (d : ℕ) → eqb 0 d ≡ false → (g d).controller.opened ≡ false → segs_of d w ≡ []
  -- at most one command is under way: on the down wire, or its answer on the up wire
  pub single : heads w ++ ks ≡ pending_name p
  -- no data is pushed behind a RESET or a CONN_CLOSE
  pub tidy : is_closing p ≡ true → Tidy w
  pub empty : is_closing p ≡ true → heads w ≡ [] → NoData w

-- the host remembers the connection that its command named
abbrev pub Aimed : Option Asked → ℕ → Type 0
Aimed None aim = Unit {0}
Aimed (Some a) aim = a.aim ≡ aim

-- a packet on the up wire is data, or a whole response or notification; a response is one that the host understands
abbrev pub SoundIn : Meaning → Type 0
SoundIn (datum c n x) = Unit {0}
SoundIn (control mt gid oid (more b)) = ⊥
SoundIn (control mt gid oid (last m)) = (((mt ≡ 2) × (written 2 gid oid m ≡ true)) ⊎ (mt ≡ 3)) × (length m ≤ control_limit)
SoundIn junk = Unit {0}

abbrev pub Sound : List Octets → Type 0
Sound = Each (λ p. SoundIn (meaning p))

-- a stored packet is data of its connection
abbrev pub StoredIn : ℕ → Meaning → Type 0
StoredIn d (datum c n x) = c ≡ d
StoredIn d (control mt gid oid x) = ⊥
StoredIn d junk = ⊥

abbrev pub StoredFor : ℕ → List Octets → Type 0
StoredFor d = Each (λ p. StoredIn d (meaning p))

-- what the controller holds for its connections; `active` is whether RF is in an active state
pub record Standing (g : ℕ → Connection) (active : Bool) (p : Profile) : Type 0 where
  -- each store holds packets of its own connection
  pub stores : (d : ℕ) → StoredFor d (g d).controller.store
  -- connection 0 is open in the active states
  pub air : active ≡ (g 0).controller.opened
  -- no connection but the five is ever open
  pub known : (d : ℕ) → no_conn d ≡ true → (g d).controller.opened ≡ false
  -- a grant is the profile's for that Conn ID
  pub granted : (d : ℕ) → (g d).controller.opened ≡ true → (g d).controller.grant ≡ (terms_of p d).credits

-- the configuration has its octets, and values that a set leaves: what a get shows is understood
pub record ConfigWithin (b : Octets) : Type 0 where
  pub long : length b ≡ config_size
  pub values : parameters_ok b ≡ true

-- one connection, by its number
abbrev pub GoodAt : ℕ → Connection → List Segment → List Item → Ledger → Type 0
GoodAt d k ss is l = Good (is_loop d) k ss is l

-- the bench s, where the last command named the connection `aim`, and l are the observer's ledgers
pub record Fine (s : State) (aim : ℕ) (l : ℕ → Ledger) : Type 0 where
  -- every connection is good, by what it sees of the wires
  pub good : (d : ℕ) → GoodAt d (s.conns d) (segs_of d s.down) (items_of aim d s.up) (l d)
  -- commands, data and answers are in order
  pub order : Order s.conns s.down (replies s.up) s.host.pending
  -- the command under way arrives whole
  pub way : OnItsWay (Aims aim) s.asking s.down
  -- the host and the observer remember the same connection
  pub aimed : Aimed s.host.pending aim
  -- what lies on the up wire is whole
  pub sound : Sound s.up
  -- a control message going up is one packet, so the host's run is always at its start
  pub heard : s.hearing.run ≡ run []
  -- what the controller holds is in order
  pub standing : Standing s.conns (is_active s.controller.rf) s.profile
  -- the profile is within its limits
  pub limits : ProfileWithin s.profile
  -- the configuration is within its own
  pub config : ConfigWithin s.config

-- an observer's account of a bench: its wires are those of the bench, and with its ledgers the bench is fine
pub record Kept (s : State) (o : Account) : Type 0 where
  pub same_down : o.down ≡ s.down
  pub same_up : o.up ≡ s.up
  pub none_astray : o.stray ≡ []
  pub fine : Fine s o.aim o.ledger

abbrev pub account_of : State → ℕ → (ℕ → Ledger) → Account
account_of s aim l = record { down = s.down; up = s.up; aim = aim; ledger = l; stray = [] }

-- what the observer counts of a call that puts packets on one wire at most and hands out no message that is astray: each of the bench's calls (`seen_tallied`)
abbrev pub tallied : Call → Event → Account → Account
tallied (fresh m) e o = acted (fresh m) e o
tallied power e o = acted power e o
tallied (command gid oid m) e o = puts_down e.to_down (acted (command gid oid m) e o)
tallied (send c m) e o = acted (send c m) e o
tallied (push c) e o = puts_down e.to_down (acted (push c) e o)
tallied down e o = puts_up e.to_up (acted down e o)
tallied (consume c) e o = puts_up e.to_up (acted (consume c) e o)
tallied credit e o = puts_up e.to_up (acted credit e o)
tallied (air m) e o = puts_up e.to_up (acted (air m) e o)
tallied reply e o = puts_up e.to_up (acted reply e o)
tallied up e o = acted up e o
tallied (report c) e o = acted (report c) e o

-- the statement for one call: taken on a fine bench, it leaves a fine bench, of which the observer has the account
abbrev pub Keeps : Call → State → ℕ → (ℕ → Ledger) → Type 0
Keeps c s aim l =
    first (rules c s) ≡ taken → Fine s aim l
    → Kept (act c s).next (tallied c (event_of c (judged taken c s)) (account_of s aim l))
