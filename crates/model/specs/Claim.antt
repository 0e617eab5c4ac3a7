-- Demand 3: the single claim about every list of calls from a fresh bench.
-- Assumes nothing.
use Rattle.std.specs.Prelude.{ℕ, ◌+◌, ◌-◌, ◌≤◌, ◌≡◌, ◌↔◌, true, false, List, [], ◌∷◌}
use Rattle.octets.specs.Octets.{Octets, pick}
use Rattle.packets.specs.Reassembly.{Prefix}
use Rattle.state.specs.Conn.{flows}
use Rattle.wires.specs.Tally.{data_count, credits_up}
use Rattle.model.specs.State.{State, cold}
use Rattle.state.specs.Profile.{profile_in, profile_octets_ok}
use Rattle.model.specs.Effects.{Call, report, taken}
use Rattle.model.specs.calls.Consume.{is_loop}
use Rattle.model.specs.Bench.{step}
use Rattle.model.specs.Observer.{Ledger, Account, opening, events, after, observed}

-- "credits held by the host (0 while it hasn't the connection open; since opening it, the grant and credits it read less packets it pushed)"
abbrev pub held_in : Ledger → ℕ
held_in l = pick l.host.opened (l.host.grant + l.host.read - l.host.pushed) 0

-- "packets stored (taken by down since the opening, less consumed)"
abbrev pub stored_in : Ledger → ℕ
stored_in l = l.controller.arrived - l.controller.consumed

-- "packets consumed since the opening less credits put in notices since", and less those put inside data
abbrev pub owed_in : Ledger → ℕ
owed_in l = l.controller.consumed - l.controller.noticed

-- the five numbers; "without flow control the first is always 255, owed and the last 0"
abbrev pub numbers_of : ℕ → Account → Octets
numbers_of c o =
    pick (flows (o.ledger c).controller.grant) (held_in (o.ledger c)) 255
    ∷ data_count c o.down
    ∷ stored_in (o.ledger c)
    ∷ pick (flows (o.ledger c).controller.grant) (owed_in (o.ledger c)) 0
    ∷ pick (flows (o.ledger c).controller.grant) (credits_up c o.up) 0
    ∷ []

abbrev pub total : List ℕ → ℕ
total [] = 0
total (n ∷ ns) = n + total ns

-- of the number c, what holds of an account of calls where c is open at the controller
pub record Conserved (c : ℕ) (o : Account) : Type 0 where
  -- under flow control the five numbers sum to the grant
  pub sum : (o.ledger c).controller.opened ≡ true → flows (o.ledger c).controller.grant ≡ true → total (numbers_of c o) ≡ (o.ledger c).controller.grant
  -- no subtraction in these numbers is cut off: no more is consumed than was stored, put on the up wire than consumed, pushed than granted
  -- and read
  pub whole_stored : (o.ledger c).controller.opened ≡ true → (o.ledger c).controller.consumed ≤ (o.ledger c).controller.arrived
  pub whole_owed : (o.ledger c).controller.opened ≡ true → flows (o.ledger c).controller.grant ≡ true
      → (o.ledger c).controller.noticed ≤ (o.ledger c).controller.consumed
  pub whole_held : (o.ledger c).controller.opened ≡ true → flows (o.ledger c).controller.grant ≡ true → (o.ledger c).host.opened ≡ true
      → (o.ledger c).host.pushed ≤ (o.ledger c).host.grant + (o.ledger c).host.read
  -- the messages handed out are the first of those taken, octet for octet: at the controller those of send,
  pub at_controller_law : (o.ledger c).controller.opened ≡ true → Prefix (o.ledger c).talk.out_controller (o.ledger c).talk.sent
  -- at the host on a loopback those of send, and on connection 0 those of the endpoint
  pub at_host_law : (o.ledger c).controller.opened ≡ true → is_loop c ≡ true → Prefix (o.ledger c).talk.out_host (o.ledger c).talk.sent
  pub at_host_static : (o.ledger c).controller.opened ≡ true → is_loop c ≡ false → Prefix (o.ledger c).talk.out_host (o.ledger c).talk.spoken
  -- and nothing but consume, an up of data and report has handed anything out
  pub none_astray : o.stray ≡ []

-- of the number c, with s the bench after the calls and o the account of them
pub record Claim (c : ℕ) (s : State) (o : Account) : Type 0 where
  -- report is taken exactly for the connections open at the controller
  pub taken_if_open : ((step (report c) s).answer ≡ taken) ↔ ((o.ledger c).controller.opened ≡ true)
  -- its five numbers are those counted from the calls
  pub numbers : (o.ledger c).controller.opened ≡ true → (step (report c) s).effect.message ≡ numbers_of c o ∷ []
  -- the numbers sum to the grant, and the messages handed out are the first of those taken
  pub account : Conserved c o

-- for every profile that fresh takes, every list of calls and every number
abbrev pub Demand : Type 0
Demand =
    (profile : Octets) → profile_octets_ok profile ≡ true → (calls : List Call) (c : ℕ)
    → Claim c (after calls (cold (profile_in profile))) (observed (events calls (cold (profile_in profile))) opening)
