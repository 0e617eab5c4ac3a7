-- The outcome of a line of the sheet.
-- Assumes nothing.
use Rattle.std.specs.Prelude.{ℕ, ◌<◌, ◌≡◌, ◌++◌, length}
use Rattle.octets.specs.Octets.{Octets, pick, splice}
use Rattle.calls.specs.Outcome.{Outcome}
use Rattle.sheet.specs.Kinds.{Name}
use Rattle.sheet.specs.Kinds.name.{Bad}
use Rattle.forms.specs.Names.{is_bad}
use Rattle.forms.specs.Form.{args_of, asks}
use Rattle.sheet.specs.Play.{played}
use Rattle.sheet.specs.Show.{event_field, answer_field, line_of}

-- the line that is printed, the area and the message buffer after it
pub record Answer : Type 0 where
  pub line : Octets
  pub area : Octets
  pub out : Octets

-- ev=bad ans=3, and nothing is touched
abbrev pub bad_line : Octets
bad_line = event_field Bad ++ answer_field 3

abbrev pub refused_line : Octets → Octets → Answer
refused_line a out = record { line = bad_line; area = a; out = out }

abbrev pub shown : Name → Outcome → Answer
shown x o = record { line = line_of x o; area = o.area; out = o.out }

unfoldable pub answer_to : Octets → Octets → Octets → Answer
answer_to l a out = pick (is_bad (asks l)) (refused_line a out) (shown (asks l) (played (asks l) (args_of l) a out))

-- the printed line stands at the front of a text, which keeps its own past it, with room for a line feed; count is its length
pub record Answers (x : Answer) (before : Octets) (n : ℕ) (after a out : Octets) : Type 0 where
  pub count : n ≡ length x.line
  pub room : n < length after
  pub text : after ≡ splice before 0 x.line
  pub area : a ≡ x.area
  pub buffer : out ≡ x.out
