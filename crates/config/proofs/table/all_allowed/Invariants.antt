-- The loop of `config::table::all_allowed`.
use mathlib.Core.Path.{◌≡◌}
use Rattle.config.specs.Table.{all_allowed}
use Rattle.config.proofs.table.all_allowed.Given as goal

abbrev pub invariant-loop-x : goal.invariant-loop-x
invariant-loop-x l = l.all ≡ all_allowed l.values l.v l.x-index
