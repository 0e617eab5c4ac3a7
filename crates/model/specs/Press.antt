-- Run to rest (document 02, item 1): the moves in the order in which they are tried, a press of the key, and presses until one makes no move. A press is a list of
-- calls, so that what holds of every list of calls holds of it.
-- Assumes nothing.
use Rattle.std.specs.Prelude.{ℕ, zero, suc, ◌+◌, ◌*◌, Bool, ◌||◌, false, List, [], ◌∷◌, ◌++◌, map, length}
use Rattle.octets.specs.Octets.{Octets, pick}
use Rattle.model.specs.State.{State}
use Rattle.model.specs.Effects.{Call, push, down, consume, credit, reply, up, is_taken}
use Rattle.model.specs.Refusals.{first, ids}
use Rattle.model.specs.calls.Credit.{owed_by, all_zero}
use Rattle.model.specs.Bench.{rules, act}
use Rattle.model.specs.Observer.{Event, events, after}
use Rattle.model.specs.Claim.{total}

-- ---- a move

-- "each time the first possible of: up; down; consume, lowest connection first; credit; push, lowest first; reply": what is under way goes on, and only where nothing
-- is does a segment in hand start
abbrev pub passing : List Call
passing = up ∷ down ∷ (map consume ids ++ (credit ∷ []))

abbrev pub starting : List Call
starting = map push ids ++ (reply ∷ [])

abbrev pub moves : List Call
moves = passing ++ starting

-- none of its refusals applies
abbrev pub possible : Call → State → Bool
possible c s = is_taken (first (rules c s))

-- what a bench does that is left to run: it rests, or plays a call
pub data Move : Type 0 where
  rests : Move
  plays : Call → Move

-- the first possible of these calls
unfoldable pub first_of : List Call → State → Move
first_of [] s = rests
first_of (c ∷ cs) s = pick (possible c s) (plays c) (first_of cs s)

abbrev pub move : State → Move
move s = first_of moves s

-- ---- how many moves there can be

-- of all connections together: segments in hand at the host, packets stored
abbrev pub in_hand : State → ℕ
in_hand s = total (map (λ (c : ℕ). length (s.conns c).host.hand) ids)

abbrev pub in_store : State → ℕ
in_store s = total (map (λ (c : ℕ). length (s.conns c).controller.store) ids)

-- the endpoint's segments left
abbrev pub in_speech : State → ℕ
in_speech s = length (s.conns 0).controller.speech

-- whether anything is owed: one notice has it all
abbrev pub debt : State → ℕ
debt s = pick (all_zero (owed_by s)) 0 1

-- it falls with every move, on every state: a segment in hand is pushed, taken, consumed, its credit put up and read
abbrev pub most : State → ℕ
most s = 5 * in_hand s + 4 * length s.down + 3 * in_store s + length s.up + 2 * in_speech s + 2 * debt s

-- ---- a press

-- it goes on after a move that hands nothing out
abbrev pub goes_on : List Octets → List Call → List Call
goes_on [] cs = cs
goes_on (m ∷ ms) cs = []

-- its calls by the first move, where `then` are those from a state on
abbrev pub press_by : (State → List Call) → Move → State → List Call
press_by then rests s = []
press_by then (plays c) s = c ∷ goes_on (act c s).message (then (act c s).next)

-- those of a press that is cut off after n moves
unfoldable pub press_within : ℕ → State → List Call
press_within zero s = []
press_within (suc n) s = press_by (press_within n) (move s) s

-- those of a press: the limit is never what ends it (`Unlimited`)
unfoldable pub press : State → List Call
press s = press_within (most s) s

-- those of n presses, one after the other
unfoldable pub presses : ℕ → State → List Call
presses zero s = []
presses (suc n) s = press s ++ presses n (after (press s) s)

-- ---- what its answer tells

-- whether a move's drop flag was set
abbrev pub any_dropped : List Event → Bool
any_dropped [] = false
any_dropped (e ∷ es) = e.dropped || any_dropped es

-- the messages handed out: only the last move can have one
abbrev pub handed_out : List Event → List Octets
handed_out [] = []
handed_out (e ∷ es) = e.message ++ handed_out es

pub record Pressed : Type 0 where
  pub moves : ℕ
  pub dropped : Bool
  pub message : List Octets
  pub next : State

abbrev pub pressed : State → Pressed
pressed s =
    record {
      moves = length (press s);
      dropped = any_dropped (events (press s) s);
      message = handed_out (events (press s) s);
      next = after (press s) s;
    }
