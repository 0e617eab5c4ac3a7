-- `call_controller::credit::put` meets its contract: what is written from the buffer is the notice, and no more, and the slot is the first free one.
use mathlib.Core.Path.{◌≡◌, ◌∙◌}
use native.Mathlib.Omega.{arith}
use lib.ListN.{length}
use Rattle.octets.specs.Octets.{splice}
use Rattle.messages.proofs.Lengths.{credits_short}
use Rattle.call_controller.proofs.Noted.{noted_length, noted_packet}
use Rattle.call_controller.proofs.credit.put.Goals as goal

pub put_noted-requires : goal.put_noted-requires
put_noted-requires c =
    let conns = c.args.r.ends.conns in
    let p = c.requires.1 in
    let five : length conns ≡ 5 = omega (arith, c.well_formed) in
    (omega (arith, credits_short conns five, noted_length c.credits_ntf-note.ensures), omega (arith, c.requires.0, p.free, p.ring.head, c.free_at-slot.ensures))

pub returns : goal.returns
returns c =
    let conns = c.args.r.ends.conns in
    let five : length conns ≡ 5 = omega (arith, c.well_formed) in
    let packet = noted_packet c.credits_ntf-note.ensures (omega (arith, credits_short conns five)) in
    c.put_noted.ensures ∙ (λ i. splice c.args.area.now (c.free_at-slot.ensures i) (packet i))
