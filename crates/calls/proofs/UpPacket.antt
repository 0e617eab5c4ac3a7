-- up: the first packet of the up wire, what is known where no rule applies, and the limits of the record after it.
-- Assumes nothing.
use Prim.Native.Nat.{ℕ, ◌+◌, ◌≤◌, ◌<◌}
use native.Mathlib.Omega.{arith}
use mathlib.Core.Path.{◌≡◌, sym, ap, ◌∙◌}
use mathlib.Core.List.{List, [], ◌∷◌}
use lib.ListN.{length}
use lib.Dec.{eqb}
use borrow.Author.Tests.{eqb-false}
use Rattle.octets.specs.Octets.{Octets, cut}
use Rattle.packets.specs.Packet.{read_of}
use Rattle.packets.specs.Reserved.{rfu_by}
use Rattle.packets.specs.Segments.{Segment, segment, body, flag}
use Rattle.packets.proofs.Segments.{flag_segment, body_segment}
use Rattle.calls.specs.Kinds.{Header, Ends, Record}
use Rattle.std.specs.Prelude.{Some, None}
use Rattle.calls.specs.Kinds.way as way
use Rattle.state.specs.Runs.{handed_on, run_for, control_joined}
use Rattle.area.specs.Map.{payload_size, slot_size, wire_slots, control_size, places, up_at, hearing_at}
use Rattle.area.specs.Ring.{slot_packet}
use Rattle.area.specs.Runs.{run_area}
use Rattle.area.proofs.Moves.{payload_few, length_payload}
use Rattle.record.specs.Fit.{Each, Shape, Fit, FitCounts, FitEnds}
use Rattle.record.specs.Small.{SmallCounts, SmallEnds, Small}
use Rattle.record.specs.Layout.{pairs_room}
use Rattle.record.proofs.Taken.{wire_took}
use Rattle.wires.specs.Meaning.{junk, meant, meaning}
use Rattle.wires.proofs.Slots.{first_slot, read_slot, meaning_junk, meaning_packet}
use Rattle.views.specs.View.{view}
use Rattle.views.specs.Moves.{Sound}
use Rattle.views.proofs.Controls.{control_whole, control_flag}
use Rattle.views.proofs.Tests.{packets_nil}
use Rattle.views.proofs.Whole.{moves}
use Rattle.model.specs.Effects.{up, taken, telling}
use Rattle.model.specs.Refusals.{Rule, rule, first}
use Rattle.model.specs.Runs.{whole_by, flag_by}
use Rattle.model.specs.Bench.{act}
use Rattle.model.specs.calls.Up.{coming, up_rules}
use Rattle.model.proofs.Order.{need}
use Rattle.calls.specs.calls.Up.{up_slot, up_read, up_payload, up_record, heard_join, heard_message, Uppable}

-- ---- the first packet

module _ (a : Octets) (r : Record) where
  abbrev pub up_packet : Octets
  up_packet = slot_packet up_at a r.up.head

  pub packet_read : (h : Header) (n : ℕ) → up_read r a ≡ Some (h, n) → meaning up_packet ≡ meant h (segment h.pbf (up_payload r n a))
  packet_read h n e = ap meaning (first_slot up_at a r.up.head) ∙ meaning_packet (cut (up_slot r) slot_size a) h n e

  pub packet_dropped : up_read r a ≡ None → meaning up_packet ≡ junk
  packet_dropped e = ap meaning (first_slot up_at a r.up.head) ∙ meaning_junk (cut (up_slot r) slot_size a) e

  pub packet_rfu : rfu_by way.Up (read_of up_packet) ≡ rfu_by way.Up (up_read r a)
  packet_rfu = ap (rfu_by way.Up) (read_slot up_at a r.up.head)

  module _ (s : Sound a r) (some : 0 < r.up.count) where
    pub up_acts : act up (view a r) ≡ telling (rfu_by way.Up (read_of up_packet)) (coming (meaning up_packet) (view a (up_record r r.ends)))
    up_acts = ap (act up) ((moves a r s).took_up some)

-- ---- a packet that was read, as a segment

module _ (a : Octets) (r : Record) (s : Sound a r) (h : Header) (n : ℕ) (e : up_read r a ≡ Some (h, n)) where
  abbrev pub up_segment : Segment
  up_segment = segment h.pbf (up_payload r n a)

  pub slot_room : up_slot r + slot_size ≤ length a
  slot_room = omega (arith, s.room, s.fit.up.head)

  pub few : n ≤ payload_size
  few = payload_few a (up_slot r) h n e

  pub is_flag : flag up_segment ≡ h.pbf
  is_flag = flag_segment h.pbf (up_payload r n a)

  pub is_body : body up_segment ≡ up_payload r n a
  is_body = body_segment h.pbf (up_payload r n a)

  pub payload_long : length (up_payload r n a) ≡ n
  payload_long = length_payload a (up_slot r) n few slot_room

  pub is_long : length (body up_segment) ≡ n
  is_long = ap length is_body ∙ payload_long

  -- ---- as one of a control message

  hearing_room : hearing_at + control_size ≤ length a
  hearing_room = omega (arith, s.room)

  abbrev whole_in : List Octets
  whole_in = whole_by (view a r).hearing h.mt h.id h.oid up_segment

  pub heard_whole : whole_in ≡ handed_on (heard_join r h n).done (heard_message r h n a)
  unfolding control_joined
  heard_whole =
      control_whole hearing_at a r.ends.hearing h up_segment (sym is_flag) s.fit.own.hearing hearing_room
      ∙ (λ i.
      handed_on (control_joined r.ends.hearing h (is_long i)).done
      (cut hearing_at ((run_for r.ends.hearing h).len + is_long i) (run_area control_size hearing_at a (run_for r.ends.hearing h) (is_body i))))

  pub heard_flag : (heard_join r h n).dropped ≡ flag_by (view a r).hearing h.mt h.id h.oid up_segment
  heard_flag =
      sym (λ i. (control_joined r.ends.hearing h (is_long i)).dropped)
      ∙ control_flag hearing_at a r.ends.hearing h up_segment (sym is_flag) s.fit.own.hearing hearing_room

-- ---- the rules on numbers

abbrev pub up_tests : Record → List Rule
up_tests r = rule 8 (eqb r.up.count 0) ∷ []

pub up_tests_law : (a : Octets) (r : Record) → up_rules (view a r) ≡ up_tests r
up_tests_law a r i = rule 8 (packets_nil up_at wire_slots a r.up i) ∷ []

-- ---- what is known where none applies

pub up_facts : (r : Record) → Fit r → Shape r → first (up_tests r) ≡ taken → Uppable r
up_facts r f shape t =
    let some = eqb-false r.up.count 0 (need 8 (up_tests r) t) in
    record { some = omega (arith, some); ring = f.up; conns = shape.conns }

-- ---- the record after it

module _ (r : Record) (e : Ends) where
  pub up_fit : Fit r → FitEnds e → Each FitCounts e.conns → Fit (up_record r e)
  up_fit f own conns = record { down = f.down; up = wire_took r.up f.up; own = own; conns = conns }

  pub up_small : SmallEnds e → Each SmallCounts e.conns → Small (up_record r e)
  up_small own conns = record { own = own; conns = conns }

  pub up_shape : length e.controller.pairs.list ≡ pairs_room → length e.conns ≡ places → Shape (up_record r e)
  up_shape pairs conns = record { pairs = pairs; conns = conns }

-- and with no more changed than that the packet is off the wire
pub took_sound : (a : Octets) (r : Record) → Sound a r → Sound a (up_record r r.ends)
took_sound a r s =
    record {
      room = s.room;
      fit = up_fit r r.ends s.fit s.fit.own s.fit.conns;
      shape = up_shape r r.ends s.shape.pairs s.shape.conns;
    }
