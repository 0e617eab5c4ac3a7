-- `sheet::show::put_event` meets its contract.
use Rattle.ascii.proofs.Writing.{wrote_text, wrote_then}
use Rattle.sheet.proofs.show.put_event.Goals as goal

pub returns : goal.returns
returns c = wrote_then _ _ c.put-n.ensures (wrote_text c.text.ensures c.put.ensures)
