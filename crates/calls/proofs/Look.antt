-- What is going on on the bench: how many octets say it, that they are stored part after part, and that they say the state which the area stands for.
-- Assumes nothing.
use Prim.Native.Nat.{ℕ, ◌≤◌}
use native.Mathlib.Omega.{arith}
use mathlib.Core.Path.{◌≡◌, refl, sym, ap, ◌∙◌}
use mathlib.Core.Bool.{true, false}
use mathlib.Core.List.{[], ◌∷◌, ◌++◌}
use lib.ListN.{length, length-append}
use Rattle.std.specs.Prelude.{Option, Some, None}
use Rattle.octets.specs.Octets.{Octets, pick, cut, splice}
use Rattle.octets.proofs.Octets.{cut_same}
use Rattle.calls.specs.Kinds.{Host, Asked, Record}
use Rattle.state.specs.Conn.{place_of}
use Rattle.area.specs.Map.{message_size, payload_size, wire_slots, down_at, up_at, endpoint_at}
use Rattle.area.proofs.Rings.{length_packets}
use Rattle.record.specs.Layout.{low, bit}
use Rattle.record.specs.Fit.{Fit}
use Rattle.record.specs.Reading.{decode_of}
use Rattle.record.specs.Writing.{phase_octet, rf_octets, pending_octets, host_octets}
use Rattle.record.proofs.Writing.{length_rf, length_pending, next}
use Rattle.views.specs.View.{view, view_of}
use Rattle.views.proofs.Tests.{hand_some}
use Rattle.model.specs.Effects.{Result, taken, refused}
use Rattle.model.specs.Refusals.{first}
use Rattle.calls.specs.Outcome.{decided, entry_rules, called}
use Rattle.calls.specs.Refines.{Good}
use Rattle.calls.specs.Packet.{handed_by}
use Rattle.calls.specs.Look.{traffic_look, in_hand, conns_look, look_of, look_size, looked, state_call, traffic_said, conns_said, state_said, Says}
use Rattle.calls.proofs.Called.{enters, called_own, sound_area}
use Rattle.calls.proofs.Words.{word_handed, word_length}

-- ---- the octets

pub length_look : (r : Record) → length (look_of r) ≡ look_size
unfolding look_of conns_look
length_look r = simp (length-append, length_rf, length_pending)

-- the unanswered command is what follows the host's size
pub pending_part_law : (h : Host) → cut 1 4 (host_octets h) ≡ pending_octets h.pending
unfolding host_octets pending_octets cut
pending_part_law h = go h.pending
  where
    go : (p : Option Asked) → cut 1 4 (h.size ∷ pending_octets p) ≡ pending_octets p
    go None = refl
    go (Some a) = refl

-- stored part after part
pub look_stored : (l : Octets) (r : Record)
    → splice (splice (splice (splice (splice l 0 (phase_octet r.ends.controller.phase ∷ [])) 1 (rf_octets r.ends.controller.rf)) 5 (pending_octets r.ends.host.pending)) 9 (traffic_look r)) 12 (conns_look r.ends.conns)
    ≡ splice l 0 (look_of r)
unfolding look_of
look_stored l r =
    let h : Octets = phase_octet r.ends.controller.phase ∷ [] in
    let x = rf_octets r.ends.controller.rf in
    let p = pending_octets r.ends.host.pending in
    let t : Octets = traffic_look r in
    rw (
      next l 0 1 h x refl,
      next l 0 5 (h ++ x) p (rw (length_rf r.ends.controller.rf)),
      next l 0 9 (h ++ x ++ p) t (simp (length-append, length_rf, length_pending)),
      next l 0 12 (h ++ x ++ p ++ t) (conns_look r.ends.conns) (simp (length-append, length_rf, length_pending)),
    )

-- ---- what they say

few : (n : ℕ) → n ≤ wire_slots → low n ≡ n
few n h = omega arith

traffic_said_law : (a : Octets) (r : Record) → Fit r → traffic_look r ≡ traffic_said (view a r)
traffic_said_law a r f = λ i.
    (few r.down.count f.down.count ∙ sym (length_packets down_at wire_slots a r.down)) i
    ∷ (few r.up.count f.up.count ∙ sym (length_packets up_at wire_slots a r.up)) i
    ∷ bit (sym (hand_some endpoint_at payload_size a r.ends.endpoint) i)
    ∷ []

conns_said_law : (a : Octets) (r : Record) → conns_look r.ends.conns ≡ conns_said (view a r)
unfolding conns_look in_hand place_of
conns_said_law a r = simp (hand_some)

look_said : (a : Octets) (r : Record) → Fit r → look_of r ≡ state_said (view a r)
unfolding look_of state_said
look_said a r f = λ i.
    (phase_octet r.ends.controller.phase ∷ []) ++ rf_octets r.ends.controller.rf ++ pending_octets r.ends.host.pending
    ++ traffic_said_law a r f i ++ conns_said_law a r i

-- ---- the call

looked_handed : (r : Record) (a out : Octets) → message_size ≤ length out → handed_by (looked r a out) ≡ look_of r ∷ []
unfolding handed_by
looked_handed r a out room =
    (λ i. pick (word_handed false true look_size 0 0 i) (cut 0 ((word_length false true look_size 0 0 (omega arith) ∙ sym (length_look r)) i) (splice out 0 (look_of r)) ∷ []) [])
    ∙ ap (λ (m : Octets). m ∷ []) (cut_same out 0 (look_of r) (omega (arith, room, length_look r)))

state_same : (a out : Octets) → (state_call a out).area ≡ a
unfolding state_call called
state_same a out = go (first (entry_rules a (length out) ++ []))
  where
    go : (x : Result) → (decided x (looked (decode_of a) a out) a out).area ≡ a
    go taken = refl
    go (refused n) = refl

state_said_law : (a out : Octets) → Good a → message_size ≤ length out → handed_by (state_call a out) ≡ state_said (view_of a) ∷ []
unfolding state_call first
state_said_law a out g room =
    ap handed_by
    (sym
    (called_own [] (looked (decode_of a) a out) a out taken
    (enters a (length out) g.long g.judged room)
    refl))
    ∙ looked_handed (decode_of a) a out room
    ∙ ap (λ (m : Octets). m ∷ []) (look_said a (decode_of a) (sound_area a g.long g.judged).fit)

pub state_says : (a out : Octets) → Says a out
state_says a out = record { same = state_same a out; said = state_said_law a out }
