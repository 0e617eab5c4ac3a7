-- The outcome of a call on octets, and what all calls share: refusals 1 and 2, and that a refusal changes nothing.
-- Assumes nothing.
use Rattle.std.specs.Prelude.{ℕ, ◌≡◌, not, List, [], ◌∷◌, ◌++◌, length, ltb, IfOk}
use Rattle.octets.specs.Octets.{Octets, pick}
use Rattle.area.specs.Map.{area_size, message_size}
use Rattle.state.specs.Refusal.{Attempt, number_in}
use Rattle.calls.specs.Kinds.{Record}
use Rattle.record.specs.Reading.{decode_of}
use Rattle.record.specs.Judge.{judge_of}
use Rattle.model.specs.Effects.{Result, taken, refused}
use Rattle.model.specs.Refusals.{Rule, rule, first}
use Rattle.calls.specs.Word.{word_telling}

-- the word answered, the area and the message buffer after the call
pub record Outcome : Type 0 where
  pub word : ℕ
  pub area : Octets
  pub out : Octets

abbrev pub outcome : ℕ → Octets → Octets → Outcome
outcome w a out = record { word = w; area = a; out = out }

-- the same with a word that shows reserved bits
abbrev pub tells : ℕ → Outcome → Outcome
tells n o = outcome (word_telling n o.word) o.area o.out

-- a refusal is its number, and changes no octet
abbrev pub decided : Result → Outcome → Octets → Octets → Outcome
decided taken o a out = o
decided (refused n) o a out = outcome n a out

-- an area too short has no record to be judged; a record that cannot be; a message buffer too short
abbrev pub entry_rules : Octets → ℕ → List Rule
entry_rules a room = rule 2 (ltb (length a) area_size) ∷ rule 1 (not (judge_of a)) ∷ rule 2 (ltb room message_size) ∷ []

-- a call with rules of its own and the outcome o where it is taken; they are those of the model on the state that the area stands for
unfoldable pub called : List Rule → Outcome → Octets → Octets → Outcome
called rs o a out = decided (first (entry_rules a (length out) ++ rs)) o a out

-- the number of the first rule that applies, 0 for none: what the code's guards answer
unfoldable pub lowest : List Rule → ℕ
lowest [] = 0
lowest (r ∷ rs) = pick r.test r.number (lowest rs)

-- n is that number, whatever octets the area has: of rules that look at the record alone
abbrev pub Lowest : (Octets → List Rule) → ℕ → Type 0
Lowest rs n = (a : Octets) → n ≡ lowest (rs a)

-- what every call does first, with a message buffer of so many octets: the number of the entry's rule that applies, or the area's record
pub record Enters (a : Octets) (room : ℕ) (l : Attempt Record) : Type 0 where
  pub answer : number_in l ≡ lowest (entry_rules a room)
  pub loads : IfOk l (λ r. r ≡ decode_of a)

-- a call that hands out no message answers w and leaves the area a, and that is o, whatever the buffer: it keeps its own octets
abbrev pub ComesTo : ℕ → Octets → (Octets → Outcome) → Type 0
ComesTo w a o = (out : Octets) → outcome w a out ≡ o out
