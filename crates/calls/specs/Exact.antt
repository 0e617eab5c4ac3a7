-- The moves of Run to rest, to the move, on octets (document 02, item 10): the words' numbers of moves, added up over all presses until one makes none, are what can be
-- foretold from what was seen of the calls, wherever calls answer that nothing is under way.
-- Assumes nothing.
use Rattle.std.specs.Prelude.{ℕ, ◌≤◌, ◌≡◌, List, length}
use Rattle.octets.specs.Octets.{Octets}
use Rattle.area.specs.Map.{message_size}
use Rattle.model.specs.Effects.{Call, Result}
use Rattle.model.specs.Observer.{Event}
use Rattle.model.specs.Exact.{Clear, exactly}
use Rattle.calls.specs.Word.{answer_in, moves_in}
use Rattle.calls.specs.Seen.{no_puts}
use Rattle.calls.specs.Demand.{perform, seen_in}
use Rattle.calls.specs.Run.{run_call}
use Rattle.calls.specs.Strokes.{EveryList, EveryStroke}
use Rattle.calls.specs.Rest.{moves_over, area_over, out_over}

-- what a call answers, as C makes it with this buffer: a refusal leaves area and buffer as they were, so asking changes nothing
abbrev pub answer_on : Octets → Octets → Call → Result
answer_on a out c = answer_in (perform c a out).word

-- of the area a that keys have left, of whose calls es was seen, and of a buffer
pub record OctetExact (a out : Octets) (es : List Event) : Type 0 where
  -- "pressing the key until it makes no move takes exactly, over all presses"
  pub moves : (n : ℕ) → moves_in (run_call (area_over n a out) (out_over n a out)).word ≡ 0 → moves_over n a out ≡ exactly es
  -- and no more presses are needed than there are moves
  pub ends : moves_in (run_call (area_over (exactly es) a out) (out_over (exactly es) a out)).word ≡ 0

-- for every list of keys, presses among them: a press stands for its moves, so what they pushed and replied is counted
abbrev pub AlwaysOctetExact : Type 0
AlwaysOctetExact = EveryList (λ ks a b. (out : Octets) → message_size ≤ length out → Clear (answer_on b out) → OctetExact b out (seen_in ks no_puts a))

-- and there are such benches: once a press makes no move, whatever keys were pressed, nothing is under way
abbrev pub AlwaysRestClear : Type 0
AlwaysRestClear = EveryStroke (λ a p o. (out : Octets) → message_size ≤ length out → moves_in (run_call a out).word ≡ 0 → Clear (answer_on a out))
