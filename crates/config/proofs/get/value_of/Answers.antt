-- `config::get::value_of` meets its contract.
use native.Mathlib.Omega.{arith}
use mathlib.Core.Path.{sym, ◌∙◌}
use Rattle.config.proofs.Rows.{found_fits}
use Rattle.config.proofs.get.value_of.Goals as goal

pub value_in-requires : goal.value_in-requires
value_in-requires c = omega (arith, found_fits c.args.id c.in-Some.r (sym c.row_of.ensures ∙ c.in-Some.is))
