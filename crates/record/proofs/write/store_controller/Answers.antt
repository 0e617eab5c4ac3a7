-- `record::write::store_controller` meets its contract.
use Rattle.record.proofs.Writing.{controller_stored}
use Rattle.record.proofs.write.store_controller.Goals as goal

pub returns : goal.returns
returns c =
    rw (c.put-3.ensures, c.put-2.ensures, c.put.ensures, c.pairs_octets.ensures, c.rf_octets.ensures, c.phase_octet.ensures)
    (controller_stored c.args.area.now c.args.at c.args.k)
