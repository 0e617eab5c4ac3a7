-- The observer: what is counted from arguments, answers, packets put on wires and messages handed out, never from the bench's own
-- numbers (document 01, "Demand 3 is a single claim about the list"). A refused call counts for nothing.
-- Assumes nothing.
use Rattle.std.specs.Prelude.{ℕ, ◌+◌, Bool, true, false, List, [], ◌∷◌, ◌++◌, eqb, get_or, drop}
use Rattle.octets.specs.Octets.{Octets, pick}
use Rattle.state.specs.Commands.{aim_in}
use Rattle.wires.specs.Meaning.{Meaning, datum, control, junk, meaning}
use Rattle.wires.specs.Tally.{says_in, contents}
use Rattle.model.specs.State.{State, at}
use Rattle.model.specs.Effects.{Call, fresh, power, command, send, push, down, consume, credit, air, reply, up, report, Result, taken, refused, Outcome}
use Rattle.ends.specs.Changes.{Change, stays, opens, closes, gives, change_heard}
use Rattle.model.specs.Bench.{step}

-- ---- what is seen of a call

pub record Event : Type 0 where
  pub call : Call
  pub answer : Result
  pub dropped : Bool
  pub rfu : ℕ
  pub to_down : List Octets
  pub to_up : List Octets
  pub message : List Octets

-- ---- what is counted for a connection

-- at the host: whether it is open, the grant read with the opening, and since then the packets pushed and the credits read
pub record HostCount : Type 0 where
  pub opened : Bool
  pub grant : ℕ
  pub pushed : ℕ
  pub read : ℕ

-- at the controller: whether it is open, the grant given with the opening, and since then the packets taken by down, the packets
-- consumed and the credits put on the up wire, in notices and inside data
pub record ControllerCount : Type 0 where
  pub opened : Bool
  pub grant : ℕ
  pub arrived : ℕ
  pub consumed : ℕ
  pub noticed : ℕ

-- since the controller opened it: messages taken by send, handed out by consume, taken by air 8, handed out by up
pub record Talk : Type 0 where
  pub sent : List Octets
  pub out_controller : List Octets
  pub spoken : List Octets
  pub out_host : List Octets

pub record Ledger : Type 0 where
  pub host : HostCount
  pub controller : ControllerCount
  pub talk : Talk

abbrev pub silence : Talk
silence = record { sent = []; out_controller = []; spoken = []; out_host = [] }

abbrev pub blank : Ledger
blank =
    record {
      host = record { opened = false; grant = 0; pushed = 0; read = 0 };
      controller = record { opened = false; grant = 0; arrived = 0; consumed = 0; noticed = 0 };
      talk = silence;
    }

-- one part of a ledger becomes another, and the rest stays
abbrev pub with_host_count : HostCount → Ledger → Ledger
with_host_count h l = record { host = h; controller = l.controller; talk = l.talk }

abbrev pub with_controller_count : ControllerCount → Ledger → Ledger
with_controller_count c l = record { host = l.host; controller = c; talk = l.talk }

abbrev pub with_talk : Talk → Ledger → Ledger
with_talk t l = record { host = l.host; controller = l.controller; talk = t }

-- what the controller puts up: an opening starts its counts anew, credits are put in a notice or inside data
abbrev pub put_by : Change → Ledger → Ledger
put_by stays l = l
put_by (opens t) l = with_talk silence (with_controller_count (record { opened = true; grant = t.credits; arrived = 0; consumed = 0; noticed = 0 }) l)
put_by closes l = let c = l.controller in with_controller_count (record { opened = false; grant = c.grant; arrived = c.arrived; consumed = c.consumed; noticed = c.noticed }) l
put_by (gives n) l = let c = l.controller in with_controller_count (record { opened = c.opened; grant = c.grant; arrived = c.arrived; consumed = c.consumed; noticed = c.noticed + n }) l

-- what the host reads
abbrev pub read_by : Change → Ledger → Ledger
read_by stays l = l
read_by (opens t) l = with_host_count (record { opened = true; grant = t.credits; pushed = 0; read = 0 }) l
read_by closes l = let h = l.host in with_host_count (record { opened = false; grant = h.grant; pushed = h.pushed; read = h.read }) l
read_by (gives n) l = let h = l.host in with_host_count (record { opened = h.opened; grant = h.grant; pushed = h.pushed; read = h.read + n }) l

-- a packet is pushed
abbrev pub pushed_l : Ledger → Ledger
pushed_l l = let h = l.host in with_host_count (record { opened = h.opened; grant = h.grant; pushed = h.pushed + 1; read = h.read }) l

-- a packet is taken by down, where the connection is open
abbrev pub arrived_l : Ledger → Ledger
arrived_l l = let c = l.controller in with_controller_count (record { opened = c.opened; grant = c.grant; arrived = c.arrived + 1; consumed = c.consumed; noticed = c.noticed }) l

-- a packet is consumed, and messages are handed out
abbrev pub eaten_l : Ledger → Ledger
eaten_l l = let c = l.controller in with_controller_count (record { opened = c.opened; grant = c.grant; arrived = c.arrived; consumed = c.consumed + 1; noticed = c.noticed }) l

abbrev pub consumed_l : List Octets → Ledger → Ledger
consumed_l ms l = let t = l.talk in with_talk (record { sent = t.sent; out_controller = t.out_controller ++ ms; spoken = t.spoken; out_host = t.out_host }) (eaten_l l)

-- a message is taken by send
abbrev pub sent_l : Octets → Ledger → Ledger
sent_l m l = let t = l.talk in with_talk (record { sent = t.sent ++ (m ∷ []); out_controller = t.out_controller; spoken = t.spoken; out_host = t.out_host }) l

-- a message is taken by air 8
abbrev pub spoken_l : Octets → Ledger → Ledger
spoken_l m l = let t = l.talk in with_talk (record { sent = t.sent; out_controller = t.out_controller; spoken = t.spoken ++ (m ∷ []); out_host = t.out_host }) l

-- messages are handed out by up
abbrev pub given_l : List Octets → Ledger → Ledger
given_l ms l = let t = l.talk in with_talk (record { sent = t.sent; out_controller = t.out_controller; spoken = t.spoken; out_host = t.out_host ++ ms }) l

-- ---- the account: what each wire holds, the connection that the last command named, a ledger for each Conn ID, and the messages handed out by a call that has none
-- to hand out

pub record Account : Type 0 where
  pub down : List Octets
  pub up : List Octets
  pub aim : ℕ
  pub ledger : ℕ → Ledger
  pub stray : List Octets

abbrev pub opening : Account
opening = record { down = []; up = []; aim = 0; ledger = λ d. blank; stray = [] }

abbrev pub with_ledger : (ℕ → Ledger) → Account → Account
with_ledger g o = record { down = o.down; up = o.up; aim = o.aim; ledger = g; stray = o.stray }

-- all but the first
abbrev pub rest : List Octets → List Octets
rest [] = []
rest (p ∷ w) = w

-- what a packet on the up wire does to a connection, where `aim` is the one that the last command named; data gives the credits that it
-- carries
abbrev pub change_in : ℕ → ℕ → Meaning → Change
change_in aim d (datum c n x) = pick (eqb c d) (gives n) stays
change_in aim d (control mt gid oid x) = change_heard (says_in aim (control mt gid oid x)) (contents (control mt gid oid x)) d
change_in aim d junk = stays

-- packets that are put on the down wire
abbrev pub puts_down : List Octets → Account → Account
puts_down ps o = record { down = o.down ++ ps; up = o.up; aim = o.aim; ledger = o.ledger; stray = o.stray }

-- packets that are put on the up wire: each does to the controller's counts what it says
abbrev pub put_all : ℕ → ℕ → List Octets → Ledger → Ledger
put_all aim d [] l = l
put_all aim d (p ∷ ps) l = put_all aim d ps (put_by (change_in aim d (meaning p)) l)

abbrev pub puts_up : List Octets → Account → Account
puts_up ps o = record { down = o.down; up = o.up ++ ps; aim = o.aim; ledger = λ d. put_all o.aim d ps (o.ledger d); stray = o.stray }

-- the packet that the controller takes: data of a connection that is open there
abbrev pub arrival : ℕ → Meaning → Ledger → Ledger
arrival d (datum c n x) l = pick (eqb c d) (pick l.controller.opened (arrived_l l) l) l
arrival d (control mt gid oid x) l = l
arrival d junk l = l

abbrev pub arrival_of : ℕ → List Octets → Ledger → Ledger
arrival_of d [] l = l
arrival_of d (p ∷ w) l = arrival d (meaning p) l

-- the packet that the host takes: its credits are read, and a message handed out is on the Conn ID that up read
abbrev pub heard_as : ℕ → ℕ → Meaning → List Octets → Ledger → Ledger
heard_as aim d (datum c n x) ms l = pick (eqb c d) (given_l ms (read_by (gives n) l)) l
heard_as aim d (control mt gid oid x) ms l = read_by (change_in aim d (control mt gid oid x)) l
heard_as aim d junk ms l = l

abbrev pub heard_of : ℕ → ℕ → List Octets → List Octets → Ledger → Ledger
heard_of aim d [] ms l = l
heard_of aim d (p ∷ w) ms l = heard_as aim d (meaning p) ms l

-- an event of the air: of kind 8 it is a message
abbrev pub aired_l : Octets → (ℕ → Ledger) → ℕ → Ledger
aired_l m g = pick (eqb (get_or m 0 0) 8) (at 0 (spoken_l (drop 1 m)) g) g

-- ---- a message handed out: consume hands out those of its connection, up those of a data packet, and report its numbers. Any other is astray

abbrev pub stray_heard : Meaning → List Octets → List Octets
stray_heard (datum c n x) ms = []
stray_heard (control mt gid oid x) ms = ms
stray_heard junk ms = ms

-- w: the up wire before the call
abbrev pub stray_read : List Octets → List Octets → List Octets
stray_read [] ms = ms
stray_read (p ∷ w) ms = stray_heard (meaning p) ms

abbrev pub stray_of : Call → List Octets → List Octets → List Octets
stray_of (fresh m) w ms = ms
stray_of power w ms = ms
stray_of (command gid oid m) w ms = ms
stray_of (send c m) w ms = ms
stray_of (push c) w ms = ms
stray_of down w ms = ms
stray_of (consume c) w ms = []
stray_of credit w ms = ms
stray_of (air m) w ms = ms
stray_of reply w ms = ms
stray_of up w ms = stray_read w ms
stray_of (report c) w ms = []

abbrev pub astray : List Octets → Account → Account
astray ms o = record { down = o.down; up = o.up; aim = o.aim; ledger = o.ledger; stray = o.stray ++ ms }

-- ---- a call that is taken

-- what it takes, and from whom
abbrev pub acted : Call → Event → Account → Account
acted (fresh m) e o = opening
acted power e o = opening
acted (command gid oid m) e o = record { down = o.down; up = o.up; aim = aim_in m; ledger = o.ledger; stray = o.stray }
acted (send c m) e o = with_ledger (at c (sent_l m) o.ledger) o
acted (push c) e o = with_ledger (at c pushed_l o.ledger) o
acted down e o = record { down = rest o.down; up = o.up; aim = o.aim; ledger = λ d. arrival_of d o.down (o.ledger d); stray = o.stray }
acted (consume c) e o = with_ledger (at c (consumed_l e.message) o.ledger) o
acted credit e o = o
acted (air m) e o = with_ledger (aired_l m o.ledger) o
acted reply e o = o
acted up e o = record { down = o.down; up = rest o.up; aim = o.aim; ledger = λ d. heard_of o.aim d o.up e.message (o.ledger d); stray = o.stray }
acted (report c) e o = o

-- and what it puts on the wires and hands out, whatever the call
abbrev pub seen : Call → Event → Account → Account
seen c e o = puts_up e.to_up (puts_down e.to_down (astray (stray_of c o.up e.message) (acted c e o)))

abbrev pub counted : Result → Event → Account → Account
counted taken e o = seen e.call e o
counted (refused n) e o = o

abbrev pub observe : Event → Account → Account
observe e o = counted e.answer e o

-- ---- a list of calls

abbrev pub event_of : Call → Outcome → Event
event_of c r =
    record {
      call = c;
      answer = r.answer;
      dropped = r.effect.drop;
      rfu = r.effect.rfu;
      to_down = r.effect.to_down;
      to_up = r.effect.to_up;
      message = r.effect.message;
    }

unfoldable pub events : List Call → State → List Event
events [] s = []
events (c ∷ cs) s = event_of c (step c s) ∷ events cs (step c s).effect.next

unfoldable pub after : List Call → State → State
after [] s = s
after (c ∷ cs) s = after cs (step c s).effect.next

unfoldable pub observed : List Event → Account → Account
observed [] o = o
observed (e ∷ es) o = observed es (observe e o)
