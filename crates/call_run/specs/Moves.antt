-- The moves of Run to rest as the code names them, and what comes of one.
-- Assumes nothing.
use Rattle.std.specs.Prelude.{ℕ, ◌≤◌, ◌≡◌, true, length, Option, Some, None}
use Rattle.octets.specs.Octets.{Octets}
use Rattle.state.specs.declared.kinds.Record.{Record}
use Rattle.area.specs.Map.{area_size, message_size}
use Rattle.record.specs.Reading.{decode_of}
use Rattle.record.specs.Judge.{judge_of}
use Rattle.views.specs.View.{view}
use Rattle.model.specs.Effects.{Call, up, down, consume, credit, push, reply}
use Rattle.model.specs.Bench.{rules}
use Rattle.model.specs.Press as press
use Rattle.model.specs.Press.{rests, plays}
use Rattle.calls.specs.Outcome.{outcome, lowest}
use Rattle.calls.specs.Demand.{perform}
use Rattle.call_run.specs.declared.choice.Move.{Move}
use Rattle.call_run.specs.declared.choice.Move.TheVariants as move

-- the call that a move is
abbrev pub call_of : Move → Call
call_of move.Up = up
call_of move.Down = down
call_of (move.Consume c) = consume c
call_of move.Credit = credit
call_of (move.Push c) = push c
call_of move.Reply = reply

-- what the bench does next, by the move found
abbrev pub next_of : Option Move → press.Move
next_of None = rests
next_of (Some m) = plays (call_of m)

-- what comes of the bench's next: no word where there is none, and nothing is touched, or its call as C makes it
abbrev pub Played : press.Move → Octets → Octets → Option ℕ → Octets → Octets → Type 0
Played m a out None b new = (m ≡ rests) × (b ≡ a) × (new ≡ out)
Played m a out (Some w) b new = (c : Call) × (m ≡ plays c) × (outcome w b new ≡ perform c a out)

-- what is known where a call is made of the area's own record r: every call is entered, and no rule of this one applies
pub record Playable (a out : Octets) (r : Record) (c : Call) : Type 0 where
  pub long : area_size ≤ length a
  pub judged : judge_of a ≡ true
  pub room : message_size ≤ length out
  pub own : r ≡ decode_of a
  pub none : 0 ≡ lowest (rules c (view a r))
