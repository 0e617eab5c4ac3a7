-- Run to rest on octets (document 02, item 1): the moves that a press makes of an area, each as the call of its name makes it, and what comes of them.
-- Assumes nothing.
use Rattle.std.specs.Prelude.{ℕ, zero, suc, ◌+◌, ◌≤◌, ◌≡◌, Bool, false, ◌||◌, List, [], ◌∷◌, length}
use Rattle.octets.specs.Octets.{Octets, pick}
use Rattle.octets.specs.Octal.{Octal}
use Rattle.views.specs.View.{view_of}
use Rattle.model.specs.Effects.{Call, is_taken}
use Rattle.model.specs.Press.{moves, Move, rests, plays, most}
use Rattle.calls.specs.Word.{word_of, answer_in, dropped_in, handed_in, length_in, moves_in}
use Rattle.calls.specs.Outcome.{Outcome, outcome, called}
use Rattle.calls.specs.Demand.{perform}

-- ---- a move

-- the call, as C makes it, is taken
abbrev pub takes : Call → Octets → Octets → Bool
takes c a out = is_taken (answer_in (perform c a out).word)

-- the first of these calls that is
unfoldable pub first_taken : List Call → Octets → Octets → Move
first_taken [] a out = rests
first_taken (c ∷ cs) a out = pick (takes c a out) (plays c) (first_taken cs a out)

abbrev pub move_on : Octets → Octets → Move
move_on a out = first_taken moves a out

-- ---- the moves of a press

-- by the first, where `then` are those of an area and a buffer from there on: none follows a message that is handed out
abbrev pub moves_by : (Octets → Octets → List Call) → Move → Octets → Octets → List Call
moves_by then rests a out = []
moves_by then (plays c) a out = c ∷ pick (handed_in (perform c a out).word) [] (then (perform c a out).area (perform c a out).out)

-- cut off after n
unfoldable pub moves_within : ℕ → Octets → Octets → List Call
moves_within zero a out = []
moves_within (suc n) a out = moves_by (moves_within n) (move_on a out) a out

-- as many as the word counts, which is more than any record has (`RunEnds`)
abbrev pub moves_most : ℕ
moves_most = 65535

unfoldable pub moves_on : Octets → Octets → List Call
moves_on a out = moves_within moves_most a out

-- ---- what comes of them

-- of the moves so far: how many, whether one's drop flag was set, and the outcome of the last
pub record Ran : Type 0 where
  pub made : ℕ
  pub dropped : Bool
  pub last : Outcome

abbrev pub unmoved : Octets → Octets → Ran
unmoved a out = record { made = 0; dropped = false; last = outcome 0 a out }

-- one more: the call gets the area and the buffer that the one before it left
abbrev pub moved : Call → Ran → Ran
moved c r =
    record {
      made = r.made + 1;
      dropped = r.dropped || dropped_in (perform c r.last.area r.last.out).word;
      last = perform c r.last.area r.last.out;
    }

unfoldable pub all_moved : List Call → Ran → Ran
all_moved [] r = r
all_moved (c ∷ cs) r = all_moved cs (moved c r)

-- ---- the call

-- the drop flag if a move's was set, the message of the last move if it handed one out, the number of moves
abbrev pub run_word : Ran → ℕ
run_word r = word_of r.dropped (handed_in r.last.word) (length_in r.last.word) r.made 0

abbrev pub told : Ran → Outcome
told r = outcome (run_word r) r.last.area r.last.out

abbrev pub ran : Octets → Octets → Outcome
ran a out = told (all_moved (moves_on a out) (unmoved a out))

-- "the key refuses with 1 and 2 alone"
unfoldable pub run_call : Octets → Octets → Outcome
run_call a out = called [] (ran a out) a out

-- ---- what is known of it on every area of octets, good or damaged, with any buffer

-- what a record can have left, by row 1
abbrev pub moves_few : ℕ
moves_few = 27877

pub record RunEnds (a out : Octets) : Type 0 where
  -- the limit is never what ends a press: whatever limit is not below what the moves lower makes the same
  pub unlimited : (n : ℕ) → most (view_of a) ≤ n → moves_within n a out ≡ moves_on a out
  -- so the word has room for their number, which is there where the press is taken, and 0 where it is not
  pub few : length (moves_on a out) ≤ moves_few
  pub counted : moves_in (run_call a out).word ≡ length (moves_on a out)

abbrev pub AlwaysEnds : Type 0
AlwaysEnds = (a out : Octets) → Octal a → RunEnds a out
