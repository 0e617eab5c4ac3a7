-- `sheet::show::put_outcome` meets its contract.
use Rattle.calls.specs.Packet.{handed_by}
use Rattle.ascii.proofs.Writing.{wrote_then}
use Rattle.sheet.proofs.show.put_outcome.Goals as goal

pub returns : goal.returns
unfolding handed_by
returns c =
    wrote_then _ _
    (wrote_then _ _
    (wrote_then _ _
    (wrote_then _ _ c.put_front-n.ensures c.put_rfu-n.ensures)
    c.put_packets-n.ensures)
    c.put_message-n.ensures)
    c.put_moves.ensures
