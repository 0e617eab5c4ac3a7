-- The moves of Run to rest, to the move (document 02, item 10): from a bench with nothing under way, how many moves all presses make until one makes none. That
-- nothing is under way is told by what calls answer, and what is in hand is counted from what was seen of the calls, never from the bench's own numbers.
-- Assumes nothing.
use Rattle.std.specs.Prelude.{ℕ, ◌+◌, ◌*◌, ◌-◌, ◌≡◌, ◌⊎◌, true, false, List, [], ◌∷◌, map, eqb, length, drop, get_or}
use Rattle.octets.specs.Octets.{Octets, pick}
use Rattle.packets.specs.Segments.{segments}
use Rattle.state.specs.Conn.{flows}
use Rattle.state.specs.Profile.{profile_in, profile_octets_ok}
use Rattle.model.specs.State.{State, cold}
use Rattle.model.specs.Effects.{Call, fresh, power, command, send, push, down, consume, credit, air, reply, up, report, Result, taken, refused}
use Rattle.model.specs.Refusals.{no_conn}
use Rattle.model.specs.Bench.{step}
use Rattle.model.specs.Observer.{Event, Account, opening, observe, observed, events, after}
use Rattle.model.specs.Claim.{total}
use Rattle.model.specs.Press.{press, presses}
use Rattle.model.specs.Discards.{diary_of}

-- ---- nothing is under way

-- "both wires and all stores empty and nothing owed": down, up and credit find nothing to move, and consume of each connection finds nothing stored or the
-- connection not open
pub record Clear (answer : Call → Result) : Type 0 where
  pub none_down : answer down ≡ refused 8
  pub none_up : answer up ≡ refused 8
  pub none_owed : answer credit ≡ refused 8
  pub none_stored : (c : ℕ) → no_conn c ≡ false → (answer (consume c) ≡ refused 6) ⊎ (answer (consume c) ≡ refused 8)

-- ---- the segments in hand

-- at the host, for connection c: change 8's diary has them, the segments of the message last sent less those pushed since
abbrev pub hand_left : List Event → ℕ → ℕ
hand_left es c = ((diary_of es).hand c).left

abbrev pub loopbacks : List ℕ
loopbacks = 2 ∷ 3 ∷ 4 ∷ 5 ∷ []

-- the endpoint's, n before a call that is taken: event 8 of the air is its message, cut at 255, and a reply takes the next segment up
abbrev pub said_by : Call → ℕ → ℕ
said_by (fresh m) n = 0
said_by power n = 0
said_by (command gid oid m) n = n
said_by (send c m) n = n
said_by (push c) n = n
said_by down n = n
said_by (consume c) n = n
said_by credit n = n
said_by (air m) n = pick (eqb (get_or m 0 0) 8) (length (segments 255 (drop 1 m))) n
said_by reply n = n - 1
said_by up n = n
said_by (report c) n = n

abbrev pub said_as : Result → Call → ℕ → ℕ
said_as taken c n = said_by c n
said_as (refused k) c n = n

-- where the account of all calls so far has connection 0 closed at the controller, the endpoint's message is discarded
abbrev pub unless_closed : Account → ℕ → ℕ
unless_closed o n = pick (o.ledger 0).controller.opened n 0

abbrev pub said : Event → Account → ℕ → ℕ
said e o n = unless_closed (observe e o) (said_as e.answer e.call n)

unfoldable pub speech : List Event → Account → ℕ → ℕ
speech [] o n = n
speech (e ∷ es) o n = speech es (observe e o) (said e o n)

-- of a list from fresh on
abbrev pub speech_left : List Event → ℕ
speech_left es = speech es opening 0

-- ---- the moves that are left

-- on connection 0, by the grant that the controller gave
abbrev pub static_cost : List Event → ℕ
static_cost es = pick (flows ((observed es opening).ledger 0).controller.grant) 5 3

-- "4 moves for each host segment on a loopback, 5 for each on connection 0 with flow control, 3 without, and 2 for each reply segment"
abbrev pub exactly : List Event → ℕ
exactly es = 4 * total (map (hand_left es) loopbacks) + static_cost es * hand_left es 0 + 2 * speech_left es

-- of the bench s, which calls have left of which es was seen
pub record Exact (s : State) (es : List Event) : Type 0 where
  -- however many presses there are until one makes no move
  pub moves : (n : ℕ) → press (after (presses n s) s) ≡ [] → length (presses n s) ≡ exactly es
  -- and no more presses are needed than there are moves
  pub ends : press (after (presses (exactly es) s) s) ≡ []

-- for every profile that fresh takes and every list of calls
abbrev pub AlwaysExact : Type 0
AlwaysExact =
    (profile : Octets) → profile_octets_ok profile ≡ true → (calls : List Call)
    → Clear (λ c. (step c (after calls (cold (profile_in profile)))).answer)
    → Exact (after calls (cold (profile_in profile))) (events calls (cold (profile_in profile)))
