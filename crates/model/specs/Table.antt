-- Document 01's proved table, whole: payload 4, credits 2. Each row is played on the bench by its own calls, and shows for every call
-- what it answers and puts on the wires. The first call is fresh, so a row holds whatever the bench was before. The rows are those of the
-- model and of the calls on octets alike: `Playing` says what it is to play them.
-- Assumes nothing.
use Rattle.std.specs.Prelude.{ℕ, ◌≡◌, false, List, [], ◌∷◌, ◌++◌, map}
use Rattle.octets.specs.Octets.{Octets}
use Rattle.model.specs.Kinds.{Terms}
use Rattle.model.specs.State.{State, cold, with_down}
use Rattle.model.specs.Effects.{Call, fresh, command, send, push, down, consume, credit, air, up, report, taken, refused}
use Rattle.model.specs.Refusals.{full}
use Rattle.model.specs.calls.Credit.{owed_by}
use Rattle.model.specs.Bench.{step}
use Rattle.model.specs.Observer.{Event, event_of, events, after}

-- ---- calls with what is seen of them

-- the call is taken: the packets put on the down wire, those put on the up wire, the messages handed out; no drop flag, no reserved bit
abbrev pub shows : Call → List Octets → List Octets → List Octets → Event
shows c d u ms = record { call = c; answer = taken; dropped = false; rfu = 0; to_down = d; to_up = u; message = ms }

-- one packet goes on the down wire, or one on the up wire, or nothing is to be seen
abbrev pub goes_down : Call → Octets → Event
goes_down c p = shows c (p ∷ []) [] []

abbrev pub goes_up : Call → Octets → Event
goes_up c p = shows c [] (p ∷ []) []

abbrev pub quietly : Call → Event
quietly c = shows c [] [] []

-- the call is not taken
abbrev pub refusal : Call → ℕ → Event
refusal c n = record { call = c; answer = refused n; dropped = false; rfu = 0; to_down = []; to_up = []; message = [] }

abbrev pub calls_of : List Event → List Call
calls_of es = map (λ (e : Event). e.call) es

-- on any bench, the calls one after the other show just this
abbrev pub Plays : List Event → Type 0
Plays es = (s : State) → events (calls_of es) s ≡ es

-- fresh with this profile makes any bench this one
abbrev pub Starts : Octets → State → Type 0
Starts m t = (s : State) → after (fresh m ∷ []) s ≡ t

-- on any bench after the calls of es, with p first on the down wire, whatever lies behind it, down puts q on the up wire and nothing else
abbrev pub Answers : List Event → Octets → Octets → Type 0
Answers es p q = (s : State) (w : List Octets) → event_of down (step down (with_down (p ∷ w) (after (calls_of es) s))) ≡ goes_up down q

-- on any bench that owes this to 0, 2, 3, 4 and 5, with a free slot on the up wire, credit puts q on it
abbrev pub Notices : List ℕ → Octets → Type 0
Notices owed q = (s : State) → owed_by s ≡ owed → full 1 s.up ≡ false → event_of credit (step credit s) ≡ goes_up credit q

-- what it is to play a row
pub record Playing : Type 1 where
  pub Plays : List Event → Type 0
  pub Starts : Octets → State → Type 0
  pub Answers : List Event → Octets → Octets → Type 0
  pub Notices : List ℕ → Octets → Type 0

abbrev pub on_model : Playing
on_model = record { Plays = Plays; Starts = Starts; Answers = Answers; Notices = Notices }

-- on a bench after these calls, the command is the packet p on the down wire, and p gives the packet q on the up wire, nothing else
pub record Gives (P : Playing) (before : List Event) (gid oid : ℕ) (payload p q : Octets) : Type 0 where
  pub called : P.Plays (before ++ goes_down (command gid oid payload) p ∷ goes_up down q ∷ [])
  pub taken_first : P.Answers before p q

-- ---- what comes before the rows

-- INIT, which states a control payload of 0x20
abbrev pub initialised : List Event
initialised =
    goes_down (command 0x0 0x01 (0x00 ∷ 0x00 ∷ [])) (0x20 ∷ 0x01 ∷ 0x02 ∷ 0x00 ∷ 0x00 ∷ [])
    ∷ goes_up down (0x40 ∷ 0x01 ∷ 0x10 ∷ 0x00 ∷ 0x00 ∷ 0x00 ∷ 0x00 ∷ 0x00 ∷ 0x04 ∷ 0x00 ∷ 0x00 ∷ 0x20 ∷ 0x00 ∷ 0x00 ∷ 0x00 ∷ 0x00 ∷ 0x01 ∷ 0x01 ∷ 0x00 ∷ [])
    ∷ quietly up
    ∷ []

-- fresh with a profile of that control payload, RESET, INIT: the controller is in IDLE
abbrev pub ready_with : Octets → List Event
ready_with profile =
    quietly (fresh profile)
    ∷ goes_down (command 0x0 0x00 (0x01 ∷ [])) (0x20 ∷ 0x00 ∷ 0x01 ∷ 0x01 ∷ [])
    ∷ shows down [] ((0x40 ∷ 0x00 ∷ 0x01 ∷ 0x00 ∷ []) ∷ (0x60 ∷ 0x00 ∷ 0x05 ∷ 0x02 ∷ 0x01 ∷ 0x20 ∷ 0x00 ∷ 0x00 ∷ []) ∷ []) []
    ∷ quietly up
    ∷ quietly up
    ∷ initialised

-- the table's profile: payload 4 and 2 credits on 2-5
abbrev pub profile : Octets
profile = 0x20 ∷ 0x04 ∷ 0x02 ∷ 0x04 ∷ 0x01 ∷ []

abbrev pub ready : List Event
ready = ready_with profile

-- CONN_CREATE, answered with this payload, these credits and this Conn ID: the connection is open at both ends
abbrev pub opened : ℕ → ℕ → ℕ → List Event
opened payload credits id =
    goes_down (command 0x0 0x04 (0x01 ∷ 0x00 ∷ [])) (0x20 ∷ 0x04 ∷ 0x02 ∷ 0x01 ∷ 0x00 ∷ [])
    ∷ goes_up down (0x40 ∷ 0x04 ∷ 0x04 ∷ 0x00 ∷ payload ∷ credits ∷ id ∷ [])
    ∷ quietly up
    ∷ []

abbrev pub created : List Event
created = opened 0x04 0x02 0x02

abbrev pub on_two : List Event
on_two = ready ++ created

-- octets 01-09 on 2: two packets spend both credits; the controller consumes them, and as 2 is a loopback they go up again, each with the
-- credit that it gives back
abbrev pub two_consumed : List Event
two_consumed =
    on_two
    ++ quietly (send 2 (0x01 ∷ 0x02 ∷ 0x03 ∷ 0x04 ∷ 0x05 ∷ 0x06 ∷ 0x07 ∷ 0x08 ∷ 0x09 ∷ []))
    ∷ goes_down (push 2) (0x12 ∷ 0x00 ∷ 0x04 ∷ 0x01 ∷ 0x02 ∷ 0x03 ∷ 0x04 ∷ [])
    ∷ goes_down (push 2) (0x12 ∷ 0x00 ∷ 0x04 ∷ 0x05 ∷ 0x06 ∷ 0x07 ∷ 0x08 ∷ [])
    ∷ refusal (push 2) 9
    ∷ quietly down
    ∷ quietly down
    ∷ goes_up (consume 2) (0x12 ∷ 0x01 ∷ 0x04 ∷ 0x01 ∷ 0x02 ∷ 0x03 ∷ 0x04 ∷ [])
    ∷ goes_up (consume 2) (0x12 ∷ 0x01 ∷ 0x04 ∷ 0x05 ∷ 0x06 ∷ 0x07 ∷ 0x08 ∷ [])
    ∷ []

-- connection 0 is closed: it has no report
abbrev pub zero_closed : List Event
zero_closed = ready ++ refusal (report 0) 6 ∷ []

-- DISCOVER and a poll activation: connection 0 is open, and its n credits are with the host
abbrev pub activated : ℕ → List Event
activated n =
    goes_down (command 0x1 0x03 (0x01 ∷ 0x00 ∷ 0x01 ∷ [])) (0x21 ∷ 0x03 ∷ 0x03 ∷ 0x01 ∷ 0x00 ∷ 0x01 ∷ [])
    ∷ goes_up down (0x41 ∷ 0x03 ∷ 0x01 ∷ 0x00 ∷ [])
    ∷ quietly up
    ∷ goes_up (air (0x02 ∷ 0x01 ∷ 0x04 ∷ 0x00 ∷ [])) (0x61 ∷ 0x05 ∷ 0x0B ∷ 0x01 ∷ 0x01 ∷ 0x04 ∷ 0x00 ∷ 0x04 ∷ n ∷ 0x00 ∷ 0x00 ∷ 0x00 ∷ 0x00 ∷ 0x00 ∷ [])
    ∷ quietly up
    ∷ shows (report 0) [] [] ((n ∷ 0x00 ∷ 0x00 ∷ 0x00 ∷ 0x00 ∷ []) ∷ [])
    ∷ []

abbrev pub zero_open : List Event
zero_open = ready ++ activated 1

-- two credits on 0: two packets spend them and are consumed, and no packet goes up that could give them back
abbrev pub two_owed : List Event
two_owed =
    ready_with (0x20 ∷ 0x04 ∷ 0x02 ∷ 0x04 ∷ 0x02 ∷ []) ++ activated 2
    ++ quietly (send 0 (0x01 ∷ 0x02 ∷ 0x03 ∷ 0x04 ∷ 0x05 ∷ 0x06 ∷ 0x07 ∷ 0x08 ∷ []))
    ∷ goes_down (push 0) (0x10 ∷ 0x00 ∷ 0x04 ∷ 0x01 ∷ 0x02 ∷ 0x03 ∷ 0x04 ∷ [])
    ∷ goes_down (push 0) (0x00 ∷ 0x00 ∷ 0x04 ∷ 0x05 ∷ 0x06 ∷ 0x07 ∷ 0x08 ∷ [])
    ∷ quietly down
    ∷ quietly down
    ∷ quietly (consume 0)
    ∷ shows (consume 0) [] [] ((0x01 ∷ 0x02 ∷ 0x03 ∷ 0x04 ∷ 0x05 ∷ 0x06 ∷ 0x07 ∷ 0x08 ∷ []) ∷ [])
    ∷ []

-- ---- the table, in the words of document 01

-- "payload 4, credits 2"
abbrev pub four_two : Terms
four_two = record { payload = 4; credits = 2 }

pub record Table (P : Playing) : Type 0 where
  -- fresh makes any bench a cold one with these on each of 2 to 5
  pub start : P.Starts profile
      (cold (record { control = 32; two = four_two; three = four_two; four = four_two; five = four_two; fixed = record { payload = 4; credits = 1 } }))
  -- "empty message on 2: 02 00 00"; then nothing is left to move
  pub empty : P.Plays (on_two ++ quietly (send 2 []) ∷ goes_down (push 2) (0x02 ∷ 0x00 ∷ 0x00 ∷ []) ∷ refusal (push 2) 8 ∷ [])
  -- "Octets 01-09: 12 00 04 01 02 03 04, 12 00 04 05 06 07 08, 02 00 01 09"; the third goes with a credit that came back
  pub nine : P.Plays (two_consumed ++ quietly up ∷ goes_down (push 2) (0x02 ∷ 0x00 ∷ 0x01 ∷ 0x09 ∷ []) ∷ refusal (push 2) 8 ∷ [])
  -- "Eight octets: two packets, the second with PBF 0"
  pub eight : P.Plays
      (on_two
      ++ quietly (send 2 (0x01 ∷ 0x02 ∷ 0x03 ∷ 0x04 ∷ 0x05 ∷ 0x06 ∷ 0x07 ∷ 0x08 ∷ []))
      ∷ goes_down (push 2) (0x12 ∷ 0x00 ∷ 0x04 ∷ 0x01 ∷ 0x02 ∷ 0x03 ∷ 0x04 ∷ [])
      ∷ goes_down (push 2) (0x02 ∷ 0x00 ∷ 0x04 ∷ 0x05 ∷ 0x06 ∷ 0x07 ∷ 0x08 ∷ [])
      ∷ refusal (push 2) 8
      ∷ [])
  -- "20 04 02 01 00 gives 40 04 04 00 04 02 02"
  pub create : Gives P ready 0x0 0x04 (0x01 ∷ 0x00 ∷ []) (0x20 ∷ 0x04 ∷ 0x02 ∷ 0x01 ∷ 0x00 ∷ []) (0x40 ∷ 0x04 ∷ 0x04 ∷ 0x00 ∷ 0x04 ∷ 0x02 ∷ 0x02 ∷ [])
  -- "Two credits to 2: 60 06 03 01 02 02", wherever 2 owes two and no other any. From fresh on a loopback owes nothing (`LoopbacksPaid`),
  -- so by calls alone it is two credits to 0
  pub credits : P.Notices (0 ∷ 2 ∷ 0 ∷ 0 ∷ 0 ∷ []) (0x60 ∷ 0x06 ∷ 0x03 ∷ 0x01 ∷ 0x02 ∷ 0x02 ∷ [])
  pub credits_zero : P.Plays (two_owed ++ goes_up credit (0x60 ∷ 0x06 ∷ 0x03 ∷ 0x01 ∷ 0x00 ∷ 0x02 ∷ []) ∷ [])
  -- "20 3F 00 gives 40 3F 01 05"
  pub unknown : Gives P ready 0x0 0x3F [] (0x20 ∷ 0x3F ∷ 0x00 ∷ []) (0x40 ∷ 0x3F ∷ 0x01 ∷ 0x05 ∷ [])
  -- "Deactivate in IDLE 41 06 01 06", whatever the type
  pub deactivate : (type : ℕ) → Gives P ready 0x1 0x06 (type ∷ []) (0x21 ∷ 0x06 ∷ 0x01 ∷ type ∷ []) (0x41 ∷ 0x06 ∷ 0x01 ∷ 0x06 ∷ [])
  -- "Closing 0: 40 05 01 01", while 0 is closed and while it is open
  pub close_closed : Gives P zero_closed 0x0 0x05 (0x00 ∷ []) (0x20 ∷ 0x05 ∷ 0x01 ∷ 0x00 ∷ []) (0x40 ∷ 0x05 ∷ 0x01 ∷ 0x01 ∷ [])
  pub close_open : Gives P zero_open 0x0 0x05 (0x00 ∷ []) (0x20 ∷ 0x05 ∷ 0x01 ∷ 0x00 ∷ []) (0x40 ∷ 0x05 ∷ 0x01 ∷ 0x01 ∷ [])
