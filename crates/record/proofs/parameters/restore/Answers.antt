-- `record::parameters::restore` meets its contract.
use Rattle.record.proofs.parameters.restore.Goals as goal

pub returns : goal.returns
returns c = rw (c.put_values.ensures, c.defaults.ensures)
