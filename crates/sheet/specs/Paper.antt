-- A paper: lines one after the other, what is printed for them, and the same on the model of the bench, which knows no areas and no slots.
-- Assumes nothing.
use Rattle.std.specs.Prelude.{ℕ, ◌≤◌, ◌≡◌, Bool, List, [], ◌∷◌, ◌++◌, length, get_or, drop}
use Rattle.octets.specs.Octets.{Octets}
use Rattle.octets.specs.Octal.{Octal}
use Rattle.area.specs.Map.{area_size, message_size}
use Rattle.state.specs.Profile.{profile_in}
use Rattle.record.specs.Layout.{bit}
use Rattle.views.specs.View.{view_of}
use Rattle.model.specs.State.{State, cold}
use Rattle.model.specs.Effects.{Call, Result, taken, fresh, power, command, send, push, down, consume, credit, air, reply, up, report}
use Rattle.model.specs.Bench.{step}
use Rattle.model.specs.Grants.{WithinGrants}
use Rattle.model.specs.Observer.{Event, event_of}
use Rattle.model.specs.Press.{press, Pressed, pressed}
use Rattle.calls.specs.Word.{number_of}
use Rattle.calls.specs.Read.{Found, found_of}
use Rattle.calls.specs.Seen.{Puts}
use Rattle.calls.specs.Refines.{Good, Along}
use Rattle.calls.specs.Rest.{MovesWithin}
use Rattle.calls.specs.calls.Fresh.{fresh_call}
use Rattle.ascii.specs.Digits.{hex_of, decimal_of}
use Rattle.sheet.specs.Kinds.{Name}
use Rattle.sheet.specs.Kinds.name.{Fresh, Power, Command, Send, Push, Down, Consume, Credit, Air, Reply, Up, Report, Read, Bad, Run}
use Rattle.forms.specs.Form.{args_of, asks}
use Rattle.sheet.specs.Show.{ans_label, drop_label, rfu_label, pkt_label, msg_label, joined, message_text, event_field, moves_field}
use Rattle.sheet.specs.Sheet.{bad_line, answer_to}

-- ---- on an area and a message buffer

unfoldable pub printed : List Octets → Octets → Octets → List Octets
printed [] a out = []
printed (l ∷ ls) a out = (answer_to l a out).line ∷ printed ls (answer_to l a out).area (answer_to l a out).out

-- ---- on the model

-- what a line asks: a call, that octets be read and nothing else, a press of Run to rest, or nothing where it has another form
pub data Asks : Type 0 where
  calls : Call → Asks
  reads : Octets → Asks
  presses : Asks
  nothing : Asks

abbrev pub asks_of : Name → Octets → Asks
asks_of Fresh m = calls (fresh m)
asks_of Power m = calls power
asks_of Command m = calls (command (get_or m 0 0) (get_or m 1 0) (drop 2 m))
asks_of Send m = calls (send (get_or m 0 0) (drop 1 m))
asks_of Push m = calls (push (get_or m 0 0))
asks_of Down m = calls down
asks_of Consume m = calls (consume (get_or m 0 0))
asks_of Credit m = calls credit
asks_of Air m = calls (air m)
asks_of Reply m = calls reply
asks_of Up m = calls up
asks_of Report m = calls (report (get_or m 0 0))
asks_of Read m = reads m
asks_of Bad m = nothing
asks_of Run m = presses

-- a line by its fields: the answer, the drop flag, the reserved bits, the octets put on wires, the message, the moves of a press
abbrev pub line_with : Name → Result → Bool → ℕ → Octets → List Octets → ℕ → Octets
line_with x r d n p ms k =
    event_field x
    ++ (ans_label ++ decimal_of (number_of r))
    ++ (drop_label ++ decimal_of (bit d))
    ++ (rfu_label ++ hex_of (n ∷ []))
    ++ (pkt_label ++ hex_of p)
    ++ (msg_label ++ message_text ms)
    ++ moves_field x k

-- that of what is seen of a call
abbrev pub event_line : Name → Event → Octets
event_line x e = line_with x e.answer e.dropped e.rfu (joined e.to_down ++ joined e.to_up) e.message 0

-- that of what reading alone finds
abbrev pub found_line : Name → Found → Octets
found_line x f = line_with x f.answer f.dropped f.rfu [] [] 0

-- that of a press: it is taken, tells no reserved bits, and moves in the place of packets
abbrev pub pressed_line : Name → Pressed → Octets
pressed_line x p = line_with x taken p.dropped 0 [] p.message p.moves

abbrev pub line_by : Name → Asks → State → Octets
line_by x (calls c) s = event_line x (event_of c (step c s))
line_by x (reads m) s = found_line x (found_of m)
line_by x presses s = pressed_line x (pressed s)
line_by x nothing s = bad_line

abbrev pub next_by : Asks → State → State
next_by (calls c) s = (step c s).effect.next
next_by (reads m) s = s
next_by presses s = (pressed s).next
next_by nothing s = s

unfoldable pub modelled : List Octets → State → List Octets
modelled [] s = []
modelled (l ∷ ls) s = line_by (asks l) (asks_of (asks l) (args_of l)) s ∷ modelled ls (next_by (asks_of (asks l) (args_of l)) s)

-- ---- the two are the same, whatever the paper

-- the profile that a sheet starts with: 2004020401
abbrev pub first_profile : Octets
first_profile = 32 ∷ 4 ∷ 2 ∷ 4 ∷ 1 ∷ []

-- no line brings credits past a grant, no move of a press either: where one does, row 1 refuses the record from then on
abbrev pub WithinBy : Asks → State → Type 0
WithinBy (calls c) s = WithinGrants (next_by (calls c) s)
WithinBy (reads m) s = WithinGrants s
WithinBy presses s = MovesWithin (press s) s
WithinBy nothing s = WithinGrants s

abbrev pub AllWithin : List Octets → State → Type 0
AllWithin [] s = Unit {0}
AllWithin (l ∷ ls) s = WithinBy (asks_of (asks l) (args_of l)) s × AllWithin ls (next_by (asks_of (asks l) (args_of l)) s)

pub record Papers : Type 0 where
  pub same : (ls : List Octets) (p : Puts) (a out : Octets) → Good a → message_size ≤ length out → Along p a → AllWithin ls (view_of a)
      → printed ls a out ≡ modelled ls (view_of a)
  -- from a fresh bench no paper does
  pub from_fresh : (ls : List Octets) (a out : Octets) → Octal a → area_size ≤ length a → message_size ≤ length out
      → printed ls (fresh_call a out first_profile).area out ≡ modelled ls (cold (profile_in first_profile))
