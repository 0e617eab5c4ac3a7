-- `call_down::down::act` makes an arrival of a packet that may be taken: what is known of it is known of the record without it.
use Rattle.calls.specs.calls.Down.{Arrivable}
use Rattle.area.specs.Map.{slot_size}
use Rattle.state.specs.declared.kinds.Record.{Record}
use Rattle.packets.specs.Packet.{read_of}
use Rattle.octets.specs.Octets.{cut}
use Rattle.std.proofs.Common.{sym, subst, ◌∙◌}
use Rattle.call_down.proofs.down.act.Goals as goal

pub invariant_of-arrival-clause-able : goal.invariant_of-arrival-clause-able
invariant_of-arrival-clause-able c =
    let h = c.in-Some.header in
    let read = sym (c.read_slot.ensures ∙ (λ i. read_of (cut (c.first_at-slot.ensures i) slot_size c.args.area.now))) ∙ c.in-Some.is in
    subst (λ (t : Record). Arrivable t.ends.conns t.up h) (sym c.took-2.ensures) (c.requires.1.packet h c.in-Some.size read)
