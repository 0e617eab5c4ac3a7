-- `config::written::set_written` meets its contract.
use Rattle.config.specs.Written.{set_written}
use Rattle.config.proofs.written.set_written.Goals as goal

pub returns : goal.returns
unfolding set_written
returns c = rw (c.choose-right.ensures, c.octet_at-n.ensures, c.octet_at-status.ensures)
