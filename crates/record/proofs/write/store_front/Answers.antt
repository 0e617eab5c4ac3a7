-- `record::write::store_front` meets its contract.
use Rattle.record.proofs.Writing.{front_stored}
use Rattle.record.proofs.write.store_front.Goals as goal

pub returns : goal.returns
returns c =
    rw (c.put-3.ensures, c.put-2.ensures, c.put.ensures, c.run_octets.ensures, c.host_octets.ensures, c.profile_octets.ensures)
    (front_stored c.args.area.now c.args.at c.args.e)
