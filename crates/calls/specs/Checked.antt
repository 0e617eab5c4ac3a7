-- The bench as it was while the card had number 13: consume and up asked last whether credits would pass the grant. From a fresh bench it gave every list
-- of calls the answers that the bench without the question gives.
-- Assumes nothing.
use Rattle.std.specs.Prelude.{ℕ, ◌≡◌, List, [], ◌∷◌}
use Rattle.octets.specs.Octets.{Octets}
use Rattle.octets.specs.Octal.{Octal}
use Rattle.record.specs.Reading.{decode_of}
use Rattle.views.specs.View.{view_of}
use Rattle.model.specs.Effects.{Call, fresh, power, command, send, push, down, consume, credit, air, reply, up, report, taken, refused}
use Rattle.model.specs.Grants.{checked_rules}
use Rattle.calls.specs.Word.{answer_in}
use Rattle.calls.specs.Outcome.{Outcome, called}
use Rattle.calls.specs.Refines.{Good}
use Rattle.calls.specs.calls.Fresh.{fresh_call}
use Rattle.calls.specs.calls.Consume.{consumed}
use Rattle.calls.specs.calls.Up.{upped}
use Rattle.calls.specs.Demand.{Key, perform, pressed, slice, AllOctal}

-- ---- a call with the question

abbrev pub checked_consume : Octets → Octets → ℕ → Outcome
checked_consume a out c = called (checked_rules (consume c) (view_of a)) (consumed (decode_of a) c a out) a out

abbrev pub checked_up : Octets → Octets → Outcome
checked_up a out = called (checked_rules up (view_of a)) (upped (decode_of a) a out) a out

-- the other calls did not ask
abbrev pub perform_checked : Call → Octets → Octets → Outcome
perform_checked (fresh m) a out = perform (fresh m) a out
perform_checked power a out = perform power a out
perform_checked (command gid oid m) a out = perform (command gid oid m) a out
perform_checked (send c m) a out = perform (send c m) a out
perform_checked (push c) a out = perform (push c) a out
perform_checked down a out = perform down a out
perform_checked (consume c) a out = checked_consume a out c
perform_checked credit a out = perform credit a out
perform_checked (air m) a out = perform (air m) a out
perform_checked reply a out = perform reply a out
perform_checked up a out = checked_up a out
perform_checked (report c) a out = perform (report c) a out

abbrev pub pressed_checked : Key → Octets → Outcome
pressed_checked k a = perform_checked k.call a k.out

-- ---- a list of calls

-- the words, areas and message buffers of the calls one after the other, each on the area that the one before it left
unfoldable pub outcomes : (Key → Octets → Outcome) → List Key → Octets → List Outcome
outcomes press [] a = []
outcomes press (k ∷ ks) a = press k a ∷ outcomes press ks (press k a).area

-- ---- the claims

-- on any area with a good record, whether calls made it or not: a call that did not answer 13 leaves a good record
abbrev pub StaysGood : Type 0
StaysGood = (k : Key) (a : Octets) → Octal (slice k.call) → Good a → (answer_in (pressed_checked k a).word ≡ refused 13 → ⊥) → Good (pressed k a).area

-- from a fresh bench every word, every area and every buffer is the same, octet for octet
abbrev pub SameAsChecked : Type 0
SameAsChecked =
    (area out profile : Octets) → Octal area → answer_in (fresh_call area out profile).word ≡ taken → (keys : List Key) → AllOctal keys
    → outcomes pressed_checked keys (fresh_call area out profile).area ≡ outcomes pressed keys (fresh_call area out profile).area
