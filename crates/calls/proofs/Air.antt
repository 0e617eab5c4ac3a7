-- air: the tests of its rules on numbers, what is known where none applies, and that it is the model's air.
-- Assumes nothing.
use Rattle.std.specs.Prelude.{Option}
use Prim.Native.Nat.{◌≤◌}
use native.Mathlib.Omega.{arith}
use mathlib.Core.Path.{◌≡◌, refl, sym, ap, ◌∙◌, subst}
use mathlib.Core.Bool.{Bool, true, false, not, ◌&&◌, ◌||◌}
use mathlib.Core.List.{List, [], ◌∷◌, ◌++◌, append-nil}
use lib.ListN.{length, drop}
use lib.Dec.{eqb, leb}
use borrow.Author.Tests.{leb-false}
use Rattle.octets.specs.Octets.{Octets, pick}
use Rattle.octets.specs.Octal.{Octal}
use Rattle.octets.proofs.Octets.{length_splice}
use Rattle.octets.proofs.Octal.{octal_drop, octal_splice}
use Rattle.packets.specs.Headers.{control_header}
use Rattle.packets.proofs.Packet.{octal_packet}
use Rattle.messages.specs.Layout.{Message}
use Rattle.calls.specs.Kinds.{Record, Aired}
use Rattle.state.proofs.Chains.{on}
use Rattle.air.specs.Air.{event_of, kind_of, is_refused, air_message}
use Rattle.air.proofs.Room.{message_short}
use Rattle.air.proofs.Spoken.{kind_told, aired_spoken, taken_known, notified}
use Rattle.air.proofs.SmallEvents.{event_octal}
use Rattle.ends.specs.Steps.{aired_in}
use Rattle.area.specs.Map.{area_size, message_size, payload_size, wire_slots, down_at, up_at, endpoint_at}
use Rattle.area.specs.Ring.{free_at, put_into}
use Rattle.record.specs.Reading.{decode_of}
use Rattle.record.specs.Fit.{Shape, Fit, FitRing}
use Rattle.record.specs.Small.{Small}
use Rattle.record.specs.Plan.{with_up}
use Rattle.record.proofs.Small.{small_decode, profile_terms}
use Rattle.views.specs.View.{up_of, view}
use Rattle.views.specs.Moves.{Sound}
use Rattle.views.proofs.Whole.{moves}
use Rattle.views.proofs.Tests.{packets_nil, up_full_one, hand_nil}
use Rattle.model.specs.State as bench
use Rattle.model.specs.Effects.{Effect, putting_up, air, taken}
use Rattle.model.specs.Refusals.{Rule, rule, first}
use Rattle.model.specs.calls.Air.{air_rules}
use Rattle.model.specs.Bench.{act, judged}
use Rattle.model.proofs.Order.{need}
use Rattle.calls.specs.Seen.{Puts}
use Rattle.calls.specs.Refines.{Good, Follows, Along, RefinesTo, Refines}
use Rattle.calls.specs.calls.Air.{speaks, aired_up, aired_record, aired_packet, aired_slot, aired_place, aired_area, aired, air_call, Airable}
use Rattle.calls.proofs.Called.{sound_area}
use Rattle.calls.proofs.Refine.{called_refines}
use Rattle.calls.proofs.Taken.{Added, added_none, added_one, took_refines}
use Rattle.calls.proofs.AirRecord.{met_record, met_shape, met_fit, met_small, met_sound, stands, told_view, spoken_view}

-- ---- the rules on numbers

abbrev pub air_tests : Record → Octets → List Rule
air_tests r m =
    let kind = kind_of (event_of m) in
    rule 3 (eqb kind 0)
    ∷ rule 4 (leb 1 kind && leb kind 7 && leb wire_slots r.up.count)
    ∷ rule 7 (eqb kind 8 && r.ends.endpoint.full)
    ∷ rule 11 (is_refused (aired_in r.ends (event_of m)))
    ∷ rule 14 ((eqb kind 2 || eqb kind 3) && (not (eqb r.down.count 0) || not (eqb r.up.count 0)))
    ∷ []

twice : (b : Bool) → not (not b) ≡ b
twice true = refl
twice false = refl

pub air_tests_law : (a : Octets) (r : Record) (m : Octets) → air_rules m (view a r) ≡ air_tests r m
air_tests_law a r m i =
    let kind = kind_of (event_of m) in
    rule 3 (eqb kind 0)
    ∷ rule 4 (leb 1 kind && leb kind 7 && up_full_one a r i)
    ∷ rule 7 (eqb kind 8 && (ap not (hand_nil endpoint_at payload_size a r.ends.endpoint) ∙ twice r.ends.endpoint.full) i)
    ∷ rule 11 (is_refused (aired_in r.ends (event_of m)))
    ∷ rule 14 ((eqb kind 2 || eqb kind 3) && (not (packets_nil down_at wire_slots a r.down i) || not (packets_nil up_at wire_slots a r.up i)))
    ∷ []

-- ---- what is known where none applies

pub air_facts : (r : Record) (m : Octets) → Fit r → first (air_tests r m) ≡ taken → Airable r m
air_facts r m f t =
    let full : Bool = leb wire_slots r.up.count in
    record {
      free =
          λ e.
          leb-false wire_slots r.up.count
          (subst (λ (b : Bool). (b && full) ≡ false) (kind_told (event_of m) (need 3 (air_tests r m) t) e) (need 4 (air_tests r m) t));
      ring = f.up;
      taken = need 11 (air_tests r m) t;
    }

-- ---- an event that is taken

module _ (a out : Octets) (r : Record) (m : Octets) (s : Sound a r) (small : Small r) (o : Octal m) (p : Airable r m) where
  abbrev x : Option Aired
  x = aired_in r.ends (event_of m)

  abbrev message : Message
  message = air_message r.ends.profile (event_of m) m

  -- both ends' numbers first, then the octets
  abbrev between : Record
  between = met_record r m

  up_fit : FitRing wire_slots (aired_up r m)
  up_fit = on (FitRing wire_slots) (speaks m) (λ _. p.ring) (λ e. record { head = p.ring.head; count = omega (arith, p.free e) })

  fit : Fit (aired_record r m)
  fit = let f = met_fit a r s small m o in record { down = f.down; up = up_fit; own = f.own; conns = f.conns }

  shape : Shape (aired_record r m)
  shape = let f = met_shape a r s small m o in record { pairs = f.pairs; conns = f.conns }

  octets_small : Small (aired_record r m)
  octets_small = let f = met_small a r s small m o in record { own = f.own; conns = f.conns }

  long : area_size ≤ length (aired_area r m a)
  long =
      on (λ (b : Octets). area_size ≤ length b) (speaks m)
      (λ _. omega (arith, s.room, length_splice a endpoint_at (drop 1 m)))
      (λ _. omega (arith, s.room, length_splice a (free_at up_at wire_slots r.up) (aired_packet r m)))

  short : length message.payload ≤ payload_size
  short = message_short r.ends.profile m

  octets_after : Octal a → Octal (aired_area r m a)
  octets_after u =
      on Octal (speaks m) (λ _. octal_splice endpoint_at u (octal_drop 1 o))
      (λ _.
      octal_splice (free_at up_at wire_slots r.up) u
      (octal_packet (control_header 3 message.gid message.oid) message.payload short
      (event_octal r.ends.profile m o (profile_terms r.ends.profile small.own.profile 0))))

  -- what the model does: the notification is put up, but of kind 8
  abbrev packets : Bool → List Octets
  packets b = pick b [] (aired_packet r m ∷ [])

  abbrev effect : Bool → Effect
  effect b = putting_up false (packets b) [] (stands a r m x)

  acts : act (air m) (view a r) ≡ effect (speaks m)
  acts i =
      let known = taken_known r.ends.controller.rf r.ends.controller.pairs (event_of m) p.taken in
      putting_up false (pick (notified r.ends.profile (event_of m) m known i) [] (aired_packet r m ∷ [])) [] (stands a r m x)

  next_view : (b : Bool) → speaks m ≡ b
      → view (pick b (aired_place m a) (aired_slot r m a)) (with_up (pick b r.up (put_into r.up)) between) ≡ (effect b).next
  next_view true k =
      spoken_view a r s m x p.taken (aired_spoken r.ends.controller.rf r.ends.controller.pairs (event_of m)) k
      ∙ (λ i. bench.with_up (sym (append-nil (up_of a r)) i) (stands a r m x))
  next_view false k =
      (moves a between (met_sound a r s small m o)).put_up (control_header 3 message.gid message.oid) message.payload short (p.free k)
      ∙ (λ i.
      bench.with_up (up_of a r ++ packets false)
      (told_view a r s m x p.taken (aired_spoken r.ends.controller.rf r.ends.controller.pairs (event_of m)) k i))

  module _ (q : Puts) (down : Follows q.down r.down) (up : Follows q.up r.up) where
    puts_up_law : (b : Bool) → Added q.up (pick b 0 1) (pick b r.up (put_into r.up)) (up_of a r ++ packets b) (packets b)
    puts_up_law true = added_none q.up r.up (up_of a r ++ []) up
    puts_up_law false = added_one q.up r.up (up_of a r) (aired_packet r m) up

    done : Octal a → RefinesTo (air m) q (aired r m a out) (judged taken (air m) (view a r))
    done u =
        subst (λ (e : Effect). RefinesTo (air m) q (aired r m a out) (record { answer = taken; effect = e })) (sym acts)
        (took_refines (air m) q (aired_area r m a) out (aired_record r m) false false 0 0 (pick (speaks m) 0 1) (effect (speaks m))
        (record {
          long = long;
          fit = fit;
          shape = shape;
          octal = octets_after u;
          small = octets_small;
          short = omega arith;
          drop = refl;
          rfu = refl;
          message = refl;
          next = next_view (speaks m) refl;
          to_down = added_none q.down r.down (view a r).down down;
          to_up = puts_up_law (speaks m);
        })
        refl)

-- an event on octets is the model's air; the octets of the argument are octets
pub air_refines : (m : Octets) (q : Puts) (a out : Octets) → Octal m → Good a → message_size ≤ length out → Along q a → Refines (air m) q a (air_call a out m)
unfolding air_call
air_refines m q a out o g room al =
    let r : Record = decode_of a in
    let s : Sound a r = sound_area a g.long g.judged in
    called_refines (air m) (aired r m a out) q a out g room al refl
    (λ t. done a out r m s (small_decode a g.octal) o (air_facts r m s.fit (ap first (sym (air_tests_law a r m)) ∙ t)) q al.down al.up g.octal)
