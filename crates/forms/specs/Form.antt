-- The form of a line: `ev=NAME arg=HEX`, capital digits, one blank, nothing before and nothing after; and how many octets each name asks.
-- Assumes nothing.
use Rattle.std.specs.Prelude.{ℕ, ◌≡◌, Bool, true, false, ◌&&◌, ◌||◌, [], ◌∷◌, length, get_or, eqb, leb, ltb}
use Rattle.octets.specs.Octets.{Octets, pick, splice}
use Rattle.ascii.specs.Letters as letter
use Rattle.ascii.specs.Fields.{after_field, has_field, only_field, value_in}
use Rattle.ascii.specs.Digits.{is_hex, octets_in}
use Rattle.forms.specs.Kinds.{Name, Asked}
use Rattle.forms.specs.Kinds.name.{Fresh, Power, Command, Send, Push, Down, Consume, Credit, Air, Reply, Up, Report, Read, Bad, Run}
use Rattle.forms.specs.Names.{name_in}

-- ---- the form

abbrev pub ev_label : Octets
ev_label = letter.e ∷ letter.v ∷ letter.equals ∷ []

abbrev pub ev_name : Octets
ev_name = letter.e ∷ letter.v ∷ []

abbrev pub arg_name : Octets
arg_name = letter.a ∷ letter.r ∷ letter.g ∷ []

-- NAME and HEX
abbrev pub word_in : Octets → Octets
word_in = value_in ev_name

abbrev pub digits_in : Octets → Octets
digits_in l = value_in arg_name (after_field l)

-- over 2,100 characters is another form
unfoldable pub formed : Octets → Bool
formed l = leb (length l) 2100 && has_field ev_name l && only_field arg_name (after_field l) && is_hex (digits_in l)

-- the octets of the arguments
unfoldable pub args_of : Octets → Octets
args_of l = pick (formed l) (octets_in (digits_in l)) []

-- ---- octets missing or to spare. What is too long at the end is the call's business, and so are kinds of events that there are not.

unfoldable pub kind_fits : ℕ → ℕ → Bool
kind_fits kind n =
    pick (eqb kind 0) (leb 1 n)
    (pick (eqb kind 1) (leb 5 n) (pick (ltb kind 4) (leb 4 n) (pick (ltb kind 8) (eqb n 1) (leb 1 n))))

abbrev pub fits : Name → Octets → Bool
fits Fresh m = eqb (length m) 5 || eqb (length m) 11
fits Power m = eqb (length m) 0
fits Command m = leb 2 (length m)
fits Send m = leb 1 (length m)
fits Push m = eqb (length m) 1
fits Down m = eqb (length m) 0
fits Consume m = eqb (length m) 1
fits Credit m = eqb (length m) 0
fits Air m = kind_fits (get_or m 0 0) (length m)
fits Reply m = eqb (length m) 0
fits Up m = eqb (length m) 0
fits Report m = eqb (length m) 1
fits Read m = true
fits Bad m = false
fits Run m = eqb (length m) 0

-- ---- the name that a line asks for: bad for a line of another form

abbrev pub fitting : Name → Octets → Name
fitting x m = pick (fits x m) x Bad

unfoldable pub asks : Octets → Name
asks l = pick (formed l) (fitting (name_in (word_in l)) (args_of l)) Bad

-- a line is read into a buffer for its arguments
pub record Reads (line args : Octets) (q : Asked) (after : Octets) : Type 0 where
  pub name : q.name ≡ asks line
  pub count : q.count ≡ length (args_of line)
  pub octets : after ≡ splice args 0 (args_of line)
