-- Demand 3 on octets: the single claim about every list of calls from a fresh bench. It speaks of what the exported functions do (their contracts name the
-- same definitions): of areas, message buffers and words, and of no record and no state of the model.
-- Assumes nothing.
use Rattle.std.specs.Prelude.{ℕ, ◌≤◌, ◌≡◌, ◌↔◌, true, false, List, [], ◌∷◌, length, take, drop}
use Rattle.octets.specs.Octets.{Octets}
use Rattle.octets.specs.Octal.{Octal}
use Rattle.area.specs.Map.{message_size}
use Rattle.model.specs.Effects.{Call, fresh, power, command, send, push, down, consume, credit, air, reply, up, report, taken}
use Rattle.model.specs.Observer.{Event, Account, opening, observed}
use Rattle.model.specs.Claim.{numbers_of, Conserved}
use Rattle.calls.specs.Word.{word_of, answer_in}
use Rattle.calls.specs.Outcome.{Outcome}
use Rattle.calls.specs.Seen.{Puts, no_puts, puts_after, seen_by}
use Rattle.calls.specs.calls.Fresh.{fresh_call}
use Rattle.calls.specs.calls.Power.{power_call}
use Rattle.calls.specs.calls.Command.{command_call}
use Rattle.calls.specs.calls.Send.{send_call}
use Rattle.calls.specs.calls.Push.{push_call}
use Rattle.calls.specs.calls.Down.{down_call}
use Rattle.calls.specs.calls.Consume.{consume_call}
use Rattle.calls.specs.calls.Credit.{credit_call}
use Rattle.calls.specs.calls.Air.{air_call}
use Rattle.calls.specs.calls.Reply.{reply_call}
use Rattle.calls.specs.calls.Up.{up_call}
use Rattle.calls.specs.calls.Report.{report_call}

-- ---- a call

-- a call with its arguments, and the message buffer that it takes, of any octets and any length
pub record Key : Type 0 where
  pub call : Call
  pub out : Octets

-- what the exported function of its name makes of an area and a buffer
abbrev pub perform : Call → Octets → Octets → Outcome
perform (fresh m) a out = fresh_call a out m
perform power a out = power_call a out
perform (command gid oid m) a out = command_call a out gid oid m
perform (send c m) a out = send_call a out c m
perform (push c) a out = push_call a out c
perform down a out = down_call a out
perform (consume c) a out = consume_call a out c
perform credit a out = credit_call a out
perform (air m) a out = air_call a out m
perform reply a out = reply_call a out
perform up a out = up_call a out
perform (report c) a out = report_call a out c

abbrev pub pressed : Key → Octets → Outcome
pressed k a = perform k.call a k.out

-- the slice that it is given, of any length
abbrev pub slice : Call → Octets
slice (fresh m) = m
slice power = []
slice (command gid oid m) = m
slice (send c m) = m
slice (push c) = []
slice down = []
slice (consume c) = []
slice credit = []
slice (air m) = m
slice reply = []
slice up = []
slice (report c) = []

-- ---- a list of calls

-- the slices of all of them are of octets
abbrev pub AllOctal : List Key → Type 0
AllOctal [] = Unit {0}
AllOctal (k ∷ ks) = Octal (slice k.call) × AllOctal ks

-- each call gets the area that the one before it left
unfoldable pub area_after : List Key → Octets → Octets
area_after [] a = a
area_after (k ∷ ks) a = area_after ks (pressed k a).area

-- how many packets were put on each wire since the last fresh or power: p before the calls
unfoldable pub puts_in : List Key → Puts → Octets → Puts
puts_in [] p a = p
puts_in (k ∷ ks) p a = puts_in ks (puts_after k.call p (pressed k a).word) (pressed k a).area

-- what is seen of them: words, the last slots filled of each wire, message buffers
unfoldable pub seen_in : List Key → Puts → Octets → List Event
seen_in [] p a = []
seen_in (k ∷ ks) p a = seen_by k.call p (pressed k a) ∷ seen_in ks (puts_after k.call p (pressed k a).word) (pressed k a).area

-- a statement of every run: of the area that any calls leave, the packets put, and the account of what was seen. It starts from any area on which fresh, with any
-- buffer and any profile octets, answered 0
abbrev pub EveryRun : (Octets → Puts → Account → Type 0) → Type 0
EveryRun P =
    (area out profile : Octets) → Octal area → answer_in (fresh_call area out profile).word ≡ taken → (keys : List Key) → AllOctal keys
    → P (area_after keys (fresh_call area out profile).area) (puts_in keys no_puts (fresh_call area out profile).area)
    (observed (seen_in keys no_puts (fresh_call area out profile).area) opening)

-- ---- the claim

-- of the number c, with a the area after the calls and o the account of them; the buffer that report takes has room for a message
pub record OctetClaim (c : ℕ) (a : Octets) (o : Account) : Type 0 where
  -- report is taken exactly for the connections open at the controller
  pub taken_if_open : (out : Octets) → message_size ≤ length out → (answer_in (report_call a out c).word ≡ taken) ↔ ((o.ledger c).controller.opened ≡ true)
  -- its word says: taken, no drop, a message of five octets, no packet put, no reserved bit; and the area is as it was
  pub word : (out : Octets) → message_size ≤ length out → (o.ledger c).controller.opened ≡ true → (report_call a out c).word ≡ word_of false true 5 0 0
  pub still : (out : Octets) → message_size ≤ length out → (o.ledger c).controller.opened ≡ true → (report_call a out c).area ≡ a
  -- its five numbers are those counted from the calls: they are the first octets of the buffer, and the rest of it is as it was
  pub numbers : (out : Octets) → message_size ≤ length out → (o.ledger c).controller.opened ≡ true → take 5 (report_call a out c).out ≡ numbers_of c o
  pub rest : (out : Octets) → message_size ≤ length out → (o.ledger c).controller.opened ≡ true → drop 5 (report_call a out c).out ≡ drop 5 out
  -- under flow control they sum to the grant, and the messages handed out are the first of those taken, octet for octet
  pub account : Conserved c o

-- for every run and every number
abbrev pub OctetDemand : Type 0
OctetDemand = EveryRun (λ a p o. (c : ℕ) → OctetClaim c a o)
