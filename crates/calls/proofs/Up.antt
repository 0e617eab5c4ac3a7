-- up by what the reader found, and that it is the model's up.
-- Assumes nothing.
use Prim.Native.Nat.{ℕ, ◌≤◌}
use native.Mathlib.Omega.{arith}
use mathlib.Core.Path.{◌≡◌, refl, sym, ap, ◌∙◌, subst}
use mathlib.Core.Bool.{Bool, true, false}
use lib.ListN.{length}
use lib.Dec.{eqb}
use Rattle.octets.specs.Octets.{Octets, pick, cut}
use Rattle.octets.specs.Octal.{Octal}
use Rattle.octets.proofs.Octal.{octal_cut}
use Rattle.packets.specs.Segments.{Segment}
use Rattle.packets.proofs.Reserved.{rfu_octet}
use Rattle.calls.specs.Kinds.{Header, Reading, Record}
use Rattle.std.specs.Prelude.{Some, None}
use Rattle.calls.specs.Kinds.way as way
use Rattle.state.specs.Conn.{held_open}
use Rattle.state.proofs.Conns.{held_place}
use Rattle.area.specs.Map.{message_size, slot_size}
use Rattle.record.specs.Reading.{decode_of}
use Rattle.record.specs.Small.{Small}
use Rattle.record.proofs.Small.{small_decode}
use Rattle.wires.specs.Meaning.{Meaning, datum, control, meant, meaning}
use Rattle.views.specs.View.{view}
use Rattle.views.specs.Moves.{Sound}
use Rattle.model.specs.Effects.{Effect, up, taken, flagged_as, telling}
use Rattle.model.specs.Refusals.{first}
use Rattle.model.specs.calls.Up.{receiving, heard, coming}
use Rattle.calls.specs.Outcome.{Outcome}
use Rattle.calls.specs.Seen.{Puts}
use Rattle.calls.specs.Refines.{Good, Follows, Along, RefinesTo, Refines}
use Rattle.calls.specs.calls.Push.{host_side}
use Rattle.calls.specs.calls.Up.{up_slot, up_read, up_record, dropped_up, received, received_up, heard_up, coming_up, read_up, upped, up_call, Uppable}
use Rattle.calls.proofs.Called.{sound_area}
use Rattle.calls.proofs.Refine.{called_refines}
use Rattle.calls.proofs.Quiet.{quiet_refines}
use Rattle.calls.proofs.Taken.{tells_refines}
use Rattle.calls.proofs.UpPacket.{up_packet, packet_read, packet_dropped, packet_rfu, up_acts, up_segment, up_tests_law, up_facts, up_small, took_sound}
use Rattle.calls.proofs.UpData.{received_by, received_refines}
use Rattle.calls.proofs.UpControl.{heard_refines}

module _ (a out : Octets) (r : Record) (s : Sound a r) (small : Small r) (o : Octal a) (p : Uppable r) (room : message_size ≤ length out)
    (q : Puts) (fd : Follows q.down r.down) (fu : Follows q.up r.up) where
  abbrev took : Record
  took = up_record r r.ends

  follows : Follows q.up took.up
  follows = omega (arith, fu, p.some, p.ring.head)

  abbrev Does : Outcome → Effect → Type 0
  Does x f = RefinesTo up q x (record { answer = taken; effect = f })

  drops : Does (dropped_up r a out) (flagged_as true (view a took))
  drops =
      let ts = took_sound a r s in
      quiet_refines a took ts.room ts.fit ts.shape o
      (up_small r r.ends small.own small.conns) up refl q fd follows true false 0 out (flagged_as true (view a took)) (omega arith) refl refl refl refl refl refl

  -- ---- a packet

  module _ (h : Header) (n : ℕ) (e : up_read r a ≡ Some (h, n)) where
    abbrev x : Segment
    x = up_segment a r s h n e

    data_does : Does (received_up r h n a out) (receiving h.id h.credits x (view a took))
    unfolding received_up held_open
    data_does = go (host_side r h.id).opened refl
      where
        go : (b : Bool) → (host_side r h.id).opened ≡ b → Does (pick b (received r h n a out) (dropped_up r a out)) (receiving h.id h.credits x (view a took))
        go true w = received_refines a r s h n e (held_place r.ends.conns h.id s.shape.conns w) q out room o small fd follows w
        go false w =
            subst (λ (b : Bool). Does (dropped_up r a out) (pick b (received_by h.id h.credits x (view a took)) (flagged_as true (view a took)))) (sym w) drops

    packet_does : Does (coming_up r h n a out) (coming (meant h x) (view a took))
    unfolding coming_up
    packet_does = go (eqb h.mt 0) (eqb h.mt 1) refl
      where
        go : (b c : Bool) → eqb h.mt 1 ≡ c
            → Does (pick b (received_up r h n a out) (pick c (dropped_up r a out) (heard_up r h n a out)))
            (coming (pick b (datum h.id h.credits x) (control h.mt h.id h.oid x)) (view a took))
        go true c m = data_does
        go false true m =
            subst (λ (b : Bool). Does (dropped_up r a out) (pick b (flagged_as true (view a took)) (heard h.mt h.id h.oid x (view a took)))) (sym m) drops
        go false false m =
            subst (λ (b : Bool). Does (heard_up r h n a out) (pick b (flagged_as true (view a took)) (heard h.mt h.id h.oid x (view a took)))) (sym m)
            (heard_refines a r s small o h n e q out fd follows)

  -- ---- whatever is in the slot

  read_does : (z : Reading) → up_read r a ≡ z → Does (read_up r z a out) (coming (meaning (up_packet a r)) (view a took))
  read_does None e = subst (λ (k : Meaning). Does (dropped_up r a out) (coming k (view a took))) (sym (packet_dropped a r e)) drops
  read_does (Some (h, n)) e =
      subst (λ (k : Meaning). Does (coming_up r h n a out) (coming k (view a took))) (sym (packet_read a r h n e)) (packet_does h n e)

-- up on octets is the model's up
pub up_refines : (q : Puts) (a out : Octets) → Good a → message_size ≤ length out → Along q a → Refines up q a (up_call a out)
unfolding up_call
up_refines q a out g room al =
    let r : Record = decode_of a in
    let s : Sound a r = sound_area a g.long g.judged in
    called_refines up (upped r a out) q a out g room al refl
    (λ t.
    let p : Uppable r = up_facts r s.fit s.shape (ap first (sym (up_tests_law a r)) ∙ t) in
    subst (λ (f : Effect). RefinesTo up q (upped r a out) (record { answer = taken; effect = f }))
    (sym (up_acts a r s p.some ∙ (λ i. telling (packet_rfu a r i) (coming (meaning (up_packet a r)) (view a (up_record r r.ends))))))
    (tells_refines up q _ _ _ (rfu_octet way.Up (cut (up_slot r) slot_size a) (octal_cut (up_slot r) slot_size g.octal))
    (read_does a out r s (small_decode a g.octal) g.octal p room q al.down al.up (up_read r a) refl)))
