-- What every call leaves alone, whatever its arguments, the area and the buffer: a refusal changes no octet, and a call that is taken touches nothing past the area's
-- 36,864 octets and nothing past its message in the buffer.
-- Assumes nothing.
use Rattle.std.specs.Prelude.{ℕ, ◌≤◌, ◌≡◌, false, length, drop}
use Rattle.octets.specs.Octets.{Octets}
use Rattle.area.specs.Map.{area_size, message_size}
use Rattle.model.specs.Effects.{refused}
use Rattle.calls.specs.Word.{answer_in, handed_in, length_in}
use Rattle.calls.specs.Outcome.{Outcome, outcome}
use Rattle.calls.specs.Demand.{Key, pressed}
use Rattle.calls.specs.Run.{run_call}

-- where the word's answer is not 0, the word is that number alone, and area and buffer are those before, to the last octet
abbrev pub RefusalsKeep : Type 0
RefusalsKeep = (k : Key) (a : Octets) (n : ℕ) → answer_in (pressed k a).word ≡ refused n → pressed k a ≡ outcome n a k.out

-- so of Run to rest, whatever moves there are
abbrev pub RunRefusalKeeps : Type 0
RunRefusalKeeps = (a out : Octets) (n : ℕ) → answer_in (run_call a out).word ≡ refused n → run_call a out ≡ outcome n a out

-- of a call on the area a with the buffer out that results in o
pub record Within (a out : Octets) (o : Outcome) : Type 0 where
  -- the area keeps its length, and its octets from 36,864 on
  pub size : length o.area ≡ length a
  pub beyond : drop area_size o.area ≡ drop area_size a
  -- the buffer keeps its length, and its octets past the message's length in the word; without a message it keeps all
  pub room : length o.out ≡ length out
  pub rest : drop (length_in o.word) o.out ≡ drop (length_in o.word) out
  pub unhanded : handed_in o.word ≡ false → o.out ≡ out
  -- no message is longer than 1,024 octets
  pub most : length_in o.word ≤ message_size

abbrev pub NothingPast : Type 0
NothingPast = (k : Key) (a : Octets) → Within a k.out (pressed k a)

-- all the moves of a press together touch no more than one call does
abbrev pub RunNothingPast : Type 0
RunNothingPast = (a out : Octets) → Within a out (run_call a out)
