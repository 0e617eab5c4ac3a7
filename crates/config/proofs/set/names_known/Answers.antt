-- `config::set::names_known` meets its contract. The loop's invariant: at is where parameter i stands, and found says whether one before it is known.
use native.Mathlib.Omega.{arith}
use native.Mathlib.Numerals.{add-one}
use mathlib.Core.Path.{refl}
use Rattle.config.specs.Commands.{param_at, names_known}
use Rattle.config.proofs.Lists.{param_read}
use Rattle.config.proofs.set.names_known.Goals as goal

pub loop-init : goal.loop-init
unfolding param_at names_known
loop-init c = (refl, refl, omega arith)

pub loop-preserved : goal.loop-preserved
unfolding names_known
loop-preserved c =
    let p = c.param_at-p.ensures in
    let r = param_read c.args.m.now _ c.loop.counter _ _ _ c.loop.invariant.1 p.id p.value p.next in
    rw (add-one c.loop.counter) (rw (c.is_some-found.ensures, c.row_of.ensures, r.id_is, c.loop.invariant.0) refl, r.next_is, omega arith)
