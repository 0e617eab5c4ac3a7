-- `sheet::show::put_number` meets its contract.
use Rattle.ascii.proofs.Writing.{wrote_then}
use Rattle.sheet.proofs.show.put_number.Goals as goal

pub returns : goal.returns
returns c = wrote_then _ _ c.put-n.ensures c.put_decimal.ensures
