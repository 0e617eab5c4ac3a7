-- A printed line, read again: what the text alone says.
-- Assumes nothing.
use Rattle.std.specs.Prelude.{ℕ, ◌≡◌, Bool, List, [], ◌∷◌, drop, get_or, eqb}
use Rattle.octets.specs.Octets.{Octets, pick}
use Rattle.octets.specs.Octal.{Octal}
use Rattle.calls.specs.Word.{number_of, answer_in, dropped_in, rfu_in, moves_in}
use Rattle.calls.specs.Outcome.{Outcome}
use Rattle.calls.specs.Packet.{handed_by}
use Rattle.ascii.specs.Letters as letter
use Rattle.ascii.specs.Words.{words}
use Rattle.ascii.specs.Digits.{octets_in, number_from}
use Rattle.sheet.specs.Kinds.{Name}
use Rattle.forms.specs.Names.{text_of, is_run}
use Rattle.sheet.specs.Show.{put_on, line_of}

-- message: none, or one that may be empty; moves: 0 where none are said
pub record Told : Type 0 where
  pub event : Octets
  pub answer : ℕ
  pub dropped : Bool
  pub rfu : ℕ
  pub packets : Octets
  pub message : List Octets
  pub moves : ℕ

abbrev pub word_at : ℕ → Octets → Octets
word_at k l = get_or (words l) k []

abbrev pub message_in : Octets → List Octets
message_in [] = []
message_in (c ∷ l) = pick (eqb c letter.dash) ([] ∷ []) (octets_in (c ∷ l) ∷ [])

-- the words of a line, each without its label: six, and a seventh of a press
abbrev pub told_by : Octets → Told
told_by l =
    record {
      event = drop 3 (word_at 0 l);
      answer = number_from 0 (drop 4 (word_at 1 l));
      dropped = eqb (number_from 0 (drop 5 (word_at 2 l))) 1;
      rfu = get_or (octets_in (drop 4 (word_at 3 l))) 0 0;
      packets = octets_in (drop 4 (word_at 4 l));
      message = message_in (drop 4 (word_at 5 l));
      moves = number_from 0 (drop 6 (word_at 6 l));
    }

-- what there is to say of an outcome
abbrev pub to_tell : Name → Outcome → Told
to_tell x o =
    record {
      event = text_of x;
      answer = number_of (answer_in o.word);
      dropped = dropped_in o.word;
      rfu = rfu_in o.word;
      packets = put_on x o;
      message = handed_by o;
      moves = pick (is_run x) (moves_in o.word) 0;
    }

-- an outcome in octets, which the types of the code say of every one
pub record Real (o : Outcome) : Type 0 where
  pub area : Octal o.area
  pub out : Octal o.out

-- a line says all, so no two outcomes sound the same
pub record Heard : Type 0 where
  pub again : (x : Name) (o : Outcome) → Real o → told_by (line_of x o) ≡ to_tell x o
  pub apart : (x y : Name) (o p : Outcome) → Real o → Real p → line_of x o ≡ line_of y p → to_tell x o ≡ to_tell y p
