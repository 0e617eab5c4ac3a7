-- `record::write::store_wires` meets its contract.
use Rattle.record.proofs.write.store_wires.Goals as goal

pub returns : goal.returns
returns c = rw (c.put.ensures, c.wires_octets.ensures)
