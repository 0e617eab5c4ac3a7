-- `call_bench::packet::act` meets its contract: the packet over the front of the buffer.
use native.Mathlib.Omega.{arith}
use mathlib.Core.Path.{ap, ◌∙◌}
use mathlib.Core.Bool.{true, false}
use lib.ListN.{length}
use Rattle.octets.specs.Octets.{splice}
use Rattle.calls.specs.Word.{word_of}
use Rattle.calls.specs.Outcome.{outcome}
use Rattle.calls.specs.Packet.{wire_ring, wire_at, slot_back}
use Rattle.calls.proofs.Packet.{length_slot}
use Rattle.call_bench.proofs.packet.act.Goals as goal

pub put-requires : goal.put-requires
put-requires c =
    let short = length_slot (wire_at c.args.wire) c.args.area.now (slot_back (wire_ring c.args.r c.args.wire) c.args.back) in
    omega (arith, c.requires.0, short, ap length c.packet_back-p.ensures)

pub hands_out-requires : goal.hands_out-requires
hands_out-requires c =
    let short = length_slot (wire_at c.args.wire) c.args.area.now (slot_back (wire_ring c.args.r c.args.wire) c.args.back) in
    omega (arith, short, ap length c.packet_back-p.ensures)

pub returns : goal.returns
returns c =
    let p = c.packet_back-p.ensures in
    let word = c.hands_out.ensures ∙ (λ i. word_of false true (length (p i)) 0 0) in
    (λ i. outcome (word i) c.args.area.now ((c.put.ensures ∙ ap (splice c.args.out.now 0) p) i))
