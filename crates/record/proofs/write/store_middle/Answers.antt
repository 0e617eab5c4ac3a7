-- `record::write::store_middle` meets its contract.
use Rattle.record.proofs.Writing.{middle_stored}
use Rattle.record.proofs.write.store_middle.Goals as goal

pub returns : goal.returns
returns c =
    rw (c.put-2.ensures, c.put.ensures, c.hand_octets.ensures, c.run_octets.ensures)
    (middle_stored c.args.area.now c.args.at c.args.e)
