-- `record::write::store_counts` meets its contract.
use Rattle.record.proofs.write.store_counts.Goals as goal

pub returns : goal.returns
returns c = rw (c.put.ensures, c.counts_octets.ensures)
