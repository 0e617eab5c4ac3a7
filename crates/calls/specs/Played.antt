-- What is seen of calls on octets is what the model shows: for every list, and for document 01's table and limits.
-- Assumes nothing.
use Rattle.std.specs.Prelude.{ℕ, ◌≤◌, ◌<◌, ◌≡◌, false, List, [], ◌∷◌, map, length}
use Rattle.octets.specs.Octets.{Octets}
use Rattle.octets.specs.Octal.{Octal}
use Rattle.state.specs.Profile.{profile_in}
use Rattle.area.specs.Map.{area_size, message_size}
use Rattle.model.specs.State.{State, cold, with_down}
use Rattle.views.specs.View.{view_of}
use Rattle.model.specs.Effects.{Call, down, credit, taken, refused}
use Rattle.model.specs.Refusals.{full}
use Rattle.model.specs.calls.Credit.{owed_by}
use Rattle.model.specs.Observer.{Event, events, after}
use Rattle.model.specs.Table.{goes_up, calls_of, Playing}
use Rattle.calls.specs.Word.{answer_in}
use Rattle.calls.specs.Seen.{Puts, no_puts, seen_by}
use Rattle.calls.specs.Refines.{Good, Along}
use Rattle.calls.specs.calls.Fresh.{fresh_call}
use Rattle.calls.specs.calls.Down.{down_call}
use Rattle.calls.specs.calls.Credit.{credit_call}
use Rattle.calls.specs.Demand.{Key, pressed, AllOctal, seen_in, EveryRun}

abbrev pub calls_in : List Key → List Call
calls_in ks = map (λ (k : Key). k.call) ks

-- every buffer has room for a message
abbrev pub AllRoom : List Key → Type 0
AllRoom [] = Unit {0}
AllRoom (k ∷ ks) = (message_size ≤ length k.out) × AllRoom ks

-- from a fresh bench, what is seen on octets of any calls is what the model shows of them
abbrev pub AsModel : Type 0
AsModel =
    (area out profile : Octets) → Octal area → answer_in (fresh_call area out profile).word ≡ taken → (keys : List Key) → AllOctal keys → AllRoom keys
    → seen_in keys no_puts (fresh_call area out profile).area ≡ events (calls_in keys) (cold (profile_in profile))

-- on any bench that calls from a fresh one have made, the calls one after the other show just this
abbrev pub OctetPlays : List Event → Type 0
OctetPlays es = EveryRun (λ a p o. (keys : List Key) → AllOctal keys → AllRoom keys → calls_in keys ≡ calls_of es → seen_in keys p a ≡ es)

-- fresh with this profile makes every area that is long enough one that stands for this bench
abbrev pub OctetStarts : Octets → State → Type 0
OctetStarts m t = (a out : Octets) → Octal a → area_size ≤ length a → message_size ≤ length out → view_of (fresh_call a out m).area ≡ t

-- on any good area that stands for a bench after the calls of es with p first on the down wire, down puts q on the up wire and nothing else
abbrev pub OctetAnswers : List Event → Octets → Octets → Type 0
OctetAnswers es x q =
    (s : State) (w : List Octets) (a out : Octets) (p : Puts) → Good a → Along p a → message_size ≤ length out
    → view_of a ≡ with_down (x ∷ w) (after (calls_of es) s) → seen_by down p (down_call a out) ≡ goes_up down q

-- on any good area that owes this to 0, 2, 3, 4 and 5, with a free slot on the up wire, credit puts q on it
abbrev pub OctetNotices : List ℕ → Octets → Type 0
OctetNotices owed q =
    (a out : Octets) (p : Puts) → Good a → Along p a → message_size ≤ length out → owed_by (view_of a) ≡ owed → full 1 (view_of a).up ≡ false
    → seen_by credit p (credit_call a out) ≡ goes_up credit q

-- what it is to play a row of the table on octets
abbrev pub on_octets : Playing
on_octets = record { Plays = OctetPlays; Starts = OctetStarts; Answers = OctetAnswers; Notices = OctetNotices }

-- an area as `OctetNotices` asks for one; no list of calls from fresh makes one that owes to 2, as a loopback's credits go up in its data (`AlwaysPaid`)
pub record Owes (owed : List ℕ) : Type 0 where
  pub area : Octets
  pub puts : Puts
  pub good : Good area
  pub along : Along puts area
  pub owing : owed_by (view_of area) ≡ owed
  pub free : full 1 (view_of area).up ≡ false

-- "an area of 36,863": whatever the call, the area and the buffer, it is refused with 2
abbrev pub ShortArea : Type 0
ShortArea = (k : Key) (a : Octets) → length a < area_size → answer_in (pressed k a).word ≡ refused 2
