-- `call_bench::packet::packet_back` meets its contract: the slot is the wire's.
use Prim.Native.Nat.{ℕ, ◌+◌, ◌≤◌, ◌<◌}
use mathlib.Core.Path.{sym, subst, ◌∙◌}
use Rattle.octets.specs.Octets.{cut}
use Rattle.state.specs.declared.kinds.Ring.{Ring}
use Rattle.area.specs.Map.{slot_size, wire_slots, wire_size, area_size}
use Rattle.area.specs.Ring.{slot_at, trim, slot_packet}
use Rattle.record.specs.Fit.{FitRing}
use Rattle.calls.specs.Packet.{slot_back}
use Rattle.calls.proofs.Packet.{wire_room}
use Rattle.call_bench.proofs.packet.packet_back.Goals as goal

pub slot_back-slot-requires : goal.slot_back-slot-requires
slot_back-slot-requires c =
    let ring = sym c.wire_ring-k.ensures in (
      subst (λ (x : ℕ). x + wire_size ≤ area_size) (sym c.wire_at-base.ensures) (wire_room c.args.wire),
      subst (FitRing wire_slots) ring c.requires.ring,
      subst (λ (k : Ring). c.args.back < k.count) ring c.requires.some,
    )

pub returns : goal.returns
unfolding slot_packet
returns c =
    let a = c.args.area.now in
    c.packet_in.ensures
    ∙ (λ i. trim (cut (c.slot_back-slot.ensures i) slot_size a))
    ∙ (λ i. trim (cut (slot_at (c.wire_at-base.ensures i) (slot_back (c.wire_ring-k.ensures i) c.args.back)) slot_size a))
