-- Conn IDs and their places in the record's array of five; what a connection's counts are when it opens and closes.
-- Assumes nothing.
use Rattle.std.specs.Prelude.{ℕ, ◌+◌, ◌-◌, ◌%◌, ◌≤◌, ◌≡◌, Bool, true, false, not, ◌&&◌, List, get_or, set, eqb, ltb}
use Rattle.octets.specs.Octets.{pick}
use Rattle.state.specs.Kinds.{Terms, Profile, Progress, Hand, Ring, HostSide, ControllerSide, Counts}

-- ---- Conn ID and place

-- connections are numbered 0, 2, 3, 4, 5; any other ID has the place 5, which is none
unfoldable pub place_of : ℕ → ℕ
place_of c =
    pick (eqb c 0) 0
    (pick (eqb c 2) 1
    (pick (eqb c 3) 2
    (pick (eqb c 4) 3
    (pick (eqb c 5) 4 5))))

unfoldable pub conn_of : ℕ → ℕ
conn_of p =
    pick (eqb p 0) 0
    (pick (eqb p 1) 2
    (pick (eqb p 2) 3
    (pick (eqb p 3) 4 5)))

-- ---- terms

-- the payload and credits that the profile has for a Conn ID; what it has for an ID that no connection has is never asked
unfoldable pub terms_of : Profile → ℕ → Terms
terms_of p c =
    pick (eqb c 0) p.fixed
    (pick (eqb c 2) p.two
    (pick (eqb c 3) p.three
    (pick (eqb c 4) p.four p.five)))

-- credits 255: no flow control
abbrev pub flows : ℕ → Bool
flows grant = not (eqb grant 255)

-- the credits that a grant counts for: without flow control none
abbrev pub metered : ℕ → ℕ
metered grant = pick (flows grant) grant 0

-- credits are an octet, and so is a sum of them
abbrev pub credit_sum : ℕ → ℕ → ℕ
credit_sum held n = (held + n) % 256

-- so the sum of two octets is theirs where it is an octet, and else 256 less
pub record OctetSum (held n : ℕ) : Type 0 where
  pub fits : held + n ≤ 255 → credit_sum held n ≡ held + n
  pub wraps : held ≤ 255 → n ≤ 255 → 256 ≤ held + n → credit_sum held n + 256 ≡ held + n

abbrev pub SumsWrap : Type 0
SumsWrap = (held n : ℕ) → OctetSum held n

-- what is owed: "if flow-controlled and open at the controller (else nothing)", whatever the field says
abbrev pub owing : Bool → ℕ → ℕ → ℕ
owing opened grant owed = pick (opened && flows grant) owed 0

-- what a data packet going up carries of it: the CR field holds at most 3 (003, 3.4.3)
unfoldable pub carriable : ℕ → ℕ
carriable owed = pick (ltb 3 owed) 3 owed

-- ---- counts

abbrev pub start : Progress
start = record { len = 0; lost = false }

-- no message in hand
abbrev pub empty : Hand
empty = record { full = false; len = 0; at = 0 }

-- a message of n octets was put in hand
abbrev pub hand_with : ℕ → Hand
hand_with n = record { full = true; len = n; at = 0 }

-- a segment of at most size octets has gone: the next one starts after it, or the message is gone whole
abbrev pub hand_after : ℕ → Hand → Hand
hand_after size h = pick (ltb (h.at + size) h.len) (record { full = true; len = h.len; at = h.at + size }) empty

abbrev pub empty_ring : Ring
empty_ring = record { head = 0; count = 0 }

-- closing discards store, message in hand and reassembly at that end
abbrev pub closed_host : HostSide
closed_host = record { opened = false; payload = 0; grant = 0; held = 0; hand = empty; run = start }

abbrev pub opened_host : Terms → HostSide
opened_host t = record { opened = true; payload = t.payload; grant = t.credits; held = t.credits; hand = empty; run = start }

abbrev pub closed_controller : ControllerSide
closed_controller = record { opened = false; grant = 0; owed = 0; store = empty_ring; run = start }

abbrev pub opened_controller : Terms → ControllerSide
opened_controller t = record { opened = true; grant = t.credits; owed = 0; store = empty_ring; run = start }

abbrev pub closed_counts : Counts
closed_counts = record { host = closed_host; controller = closed_controller }

-- the counts of a Conn ID; past the array's end those of a closed connection
abbrev pub counts_of : List Counts → ℕ → Counts
counts_of conns c = get_or conns (place_of c) closed_counts

unfoldable pub open_at : List Counts → ℕ → Bool
open_at conns c = (counts_of conns c).controller.opened

unfoldable pub held_open : List Counts → ℕ → Bool
held_open conns c = (counts_of conns c).host.opened

-- the array with another host's or controller's side for a Conn ID
abbrev pub with_host : List Counts → ℕ → HostSide → List Counts
with_host conns c h = set conns (place_of c) (record { host = h; controller = (counts_of conns c).controller })

abbrev pub with_controller : List Counts → ℕ → ControllerSide → List Counts
with_controller conns c k = set conns (place_of c) (record { host = (counts_of conns c).host; controller = k })

-- ---- closing and opening at the controller

abbrev pub controller_closed_at : List Counts → ℕ → List Counts
controller_closed_at conns c = with_controller conns c closed_controller

abbrev pub controller_opened_at : List Counts → ℕ → Terms → List Counts
controller_opened_at conns c t = with_controller conns c (opened_controller t)

abbrev pub controller_all_closed : List Counts → List Counts
controller_all_closed conns = controller_closed_at (controller_closed_at (controller_closed_at (controller_closed_at (controller_closed_at conns 0) 2) 3) 4) 5

-- ---- closing and opening at the host

abbrev pub host_closed_at : List Counts → ℕ → List Counts
host_closed_at conns c = with_host conns c closed_host

abbrev pub host_opened_at : List Counts → ℕ → Terms → List Counts
host_opened_at conns c t = with_host conns c (opened_host t)

abbrev pub host_all_closed : List Counts → List Counts
host_all_closed conns = host_closed_at (host_closed_at (host_closed_at (host_closed_at (host_closed_at conns 0) 2) 3) 4) 5

-- ---- credits inside a data packet

abbrev pub carried_by : ControllerSide → ℕ
carried_by k = carriable (owing k.opened k.grant k.owed)

-- what the packet carries is no longer owed
abbrev pub paid_side : ControllerSide → ControllerSide
paid_side k = record { opened = k.opened; grant = k.grant; owed = k.owed - carried_by k; store = k.store; run = k.run }

-- ---- a credit notice

-- all that a connection owes has been put in a notice; what a closed one, or one without flow control, has there is never owed, and stays
abbrev pub noticed_side : ControllerSide → ControllerSide
noticed_side k =
    record { opened = k.opened; grant = k.grant; owed = pick (k.opened && flows k.grant) 0 k.owed; store = k.store; run = k.run }

abbrev pub noticed_at : List Counts → ℕ → List Counts
noticed_at conns c = with_controller conns c (noticed_side (counts_of conns c).controller)

abbrev pub all_noticed : List Counts → List Counts
all_noticed conns = noticed_at (noticed_at (noticed_at (noticed_at (noticed_at conns 0) 2) 3) 4) 5
