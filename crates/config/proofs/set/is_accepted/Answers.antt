-- `config::set::is_accepted` meets its contract.
use mathlib.Core.Path.{sym, ◌∙◌}
use Rattle.config.proofs.Lists.{accepted_law}
use Rattle.config.proofs.set.is_accepted.Goals as goal

pub returns-in-Some : goal.returns-in-Some
returns-in-Some c = rw (c.is_empty.ensures, c.acceptable.ensures) (accepted_law c.args.id c.in-Some.r c.args.v.now (sym c.row_of.ensures ∙ c.in-Some.is))
