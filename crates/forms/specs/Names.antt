-- The names of events, as they are written.
-- Assumes nothing.
use Rattle.std.specs.Prelude.{Bool, true, false, List, [], ◌∷◌}
use Rattle.octets.specs.Octets.{Octets, pick}
use Rattle.ascii.specs.Letters.{a, b, c, d, e, f, h, i, l, m, n, o, p, r, s, t, u, w, y}
use Rattle.ascii.specs.Words.{same_as}
use Rattle.forms.specs.Kinds.{Name}
use Rattle.forms.specs.Kinds.name.{Fresh, Power, Command, Send, Push, Down, Consume, Credit, Air, Reply, Up, Report, Read, Bad, Run}

abbrev pub text_of : Name → Octets
text_of Fresh = f ∷ r ∷ e ∷ s ∷ h ∷ []
text_of Power = p ∷ o ∷ w ∷ e ∷ r ∷ []
text_of Command = c ∷ o ∷ m ∷ m ∷ a ∷ n ∷ d ∷ []
text_of Send = s ∷ e ∷ n ∷ d ∷ []
text_of Push = p ∷ u ∷ s ∷ h ∷ []
text_of Down = d ∷ o ∷ w ∷ n ∷ []
text_of Consume = c ∷ o ∷ n ∷ s ∷ u ∷ m ∷ e ∷ []
text_of Credit = c ∷ r ∷ e ∷ d ∷ i ∷ t ∷ []
text_of Air = a ∷ i ∷ r ∷ []
text_of Reply = r ∷ e ∷ p ∷ l ∷ y ∷ []
text_of Up = u ∷ p ∷ []
text_of Report = r ∷ e ∷ p ∷ o ∷ r ∷ t ∷ []
text_of Read = r ∷ e ∷ a ∷ d ∷ []
text_of Bad = b ∷ a ∷ d ∷ []
text_of Run = r ∷ u ∷ n ∷ []

-- those of the twelve calls, of reading alone, and of Run to rest
abbrev pub names : List Name
names = Fresh ∷ Power ∷ Command ∷ Send ∷ Push ∷ Down ∷ Consume ∷ Credit ∷ Air ∷ Reply ∷ Up ∷ Report ∷ Read ∷ Run ∷ []

-- the name that a word is
unfoldable pub among : List Name → Octets → Name
among [] l = Bad
among (x ∷ xs) l = pick (same_as l (text_of x)) x (among xs l)

abbrev pub name_in : Octets → Name
name_in = among names

abbrev pub is_bad : Name → Bool
is_bad Fresh = false
is_bad Power = false
is_bad Command = false
is_bad Send = false
is_bad Push = false
is_bad Down = false
is_bad Consume = false
is_bad Credit = false
is_bad Air = false
is_bad Reply = false
is_bad Up = false
is_bad Report = false
is_bad Read = false
is_bad Bad = true
is_bad Run = false

-- a press of Run to rest, whose line tells moves and no packets
abbrev pub is_run : Name → Bool
is_run Fresh = false
is_run Power = false
is_run Command = false
is_run Send = false
is_run Push = false
is_run Down = false
is_run Consume = false
is_run Credit = false
is_run Air = false
is_run Reply = false
is_run Up = false
is_run Report = false
is_run Read = false
is_run Bad = false
is_run Run = true
