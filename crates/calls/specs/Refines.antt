-- What a call on octets is to the model: what is seen of it is what the model shows, and the area after it stands for the model's next state.
-- Assumes nothing.
use Rattle.std.specs.Prelude.{ℕ, ◌+◌, ◌%◌, ◌≤◌, ◌≡◌, true, length}
use Rattle.octets.specs.Octets.{Octets}
use Rattle.octets.specs.Octal.{Octal}
use Rattle.calls.specs.Kinds.{Ring}
use Rattle.area.specs.Map.{area_size, message_size, wire_slots}
use Rattle.config.specs.Stored.{parameters_ok}
use Rattle.record.specs.Reading.{decode_of}
use Rattle.record.specs.Judge.{judge_of}
use Rattle.views.specs.View.{view_of}
use Rattle.model.specs.Effects as model
use Rattle.model.specs.Effects.{Call}
use Rattle.model.specs.Bench.{step}
use Rattle.model.specs.Grants.{WithinGrants}
use Rattle.model.specs.Observer.{event_of}
use Rattle.calls.specs.Word.{down_in, up_in}
use Rattle.calls.specs.Outcome.{Outcome}
use Rattle.calls.specs.Seen.{Puts, puts_after, seen_by}
use Rattle.calls.specs.Demand.{perform, slice}

-- an area of octets, long enough, with a record that row 1 lets pass
pub record Good (a : Octets) : Type 0 where
  pub long : area_size ≤ length a
  pub judged : judge_of a ≡ true
  pub octal : Octal a

-- a wire's first free slot is the one whose number is that of the packets put
abbrev pub Follows : ℕ → Ring → Type 0
Follows n k = n % wire_slots ≡ (k.head + k.count) % wire_slots

pub record Along (p : Puts) (a : Octets) : Type 0 where
  pub down : Follows p.down (decode_of a).down
  pub up : Follows p.up (decode_of a).up

-- the packets that a call put are on the wires after it
pub record OnWires (w : ℕ) (a : Octets) : Type 0 where
  pub down : down_in w ≤ (decode_of a).down.count
  pub up : up_in w ≤ (decode_of a).up.count

-- an outcome on octets is this outcome of the model
pub record RefinesTo (c : Call) (p : Puts) (o : Outcome) (m : model.Outcome) : Type 0 where
  -- its record is one that row 1 lets pass, unless credits have passed a grant or a parameter has a value that no set leaves
  pub good : WithinGrants m.effect.next → parameters_ok m.effect.next.config ≡ true → Good o.area
  pub event : seen_by c p o ≡ event_of c m
  pub next : view_of o.area ≡ m.effect.next
  pub along : Along (puts_after c p o.word) o.area
  pub there : OnWires o.word o.area

abbrev pub Refines : Call → Puts → Octets → Outcome → Type 0
Refines c p a o = RefinesTo c p o (step c (view_of a))

-- each of the twelve calls on octets is the model's step: on every area with a good record, whether calls made it or not, with room in the buffer for a message
abbrev pub AllRefine : Type 0
AllRefine = (c : Call) (p : Puts) (a out : Octets) → Octal (slice c) → Good a → message_size ≤ length out → Along p a → Refines c p a (perform c a out)
