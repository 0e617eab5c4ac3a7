-- `config::table::all_allowed` meets its contract. The loop's invariant: all says whether the first octets may stand.
use mathlib.Core.Path.{refl}
use native.Mathlib.Numerals.{add-one}
use Rattle.config.specs.Table.{all_allowed}
use Rattle.config.proofs.table.all_allowed.Goals as goal

pub loop-x-init : goal.loop-x-init
unfolding all_allowed
loop-x-init c = refl

pub loop-x-preserved : goal.loop-x-preserved
unfolding all_allowed
loop-x-preserved c = rw (add-one c.loop-x.x-index, c.loop-x.invariant, c.allowed_by-all.ensures)
