-- `record::write::encode` meets its contract.
use Rattle.record.proofs.Writing.{encode_stored}
use Rattle.record.proofs.write.encode.Goals as goal

pub returns : goal.returns
returns c =
    rw (c.store_wires.ensures, c.store_conns.ensures, c.store_middle.ensures, c.store_controller.ensures, c.store_front.ensures)
    (encode_stored c.args.area.now c.args.r)
