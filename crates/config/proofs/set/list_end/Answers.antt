-- `config::set::list_end` meets its contract. The loop's invariant: at is where parameter i stands.
use native.Mathlib.Omega.{arith}
use native.Mathlib.Numerals.{add-one}
use mathlib.Core.Path.{refl}
use Rattle.config.specs.Commands.{param_at}
use Rattle.config.proofs.Lists.{param_read}
use Rattle.config.proofs.set.list_end.Goals as goal

pub loop-init : goal.loop-init
unfolding param_at
loop-init c = (refl, omega arith)

pub loop-preserved : goal.loop-preserved
loop-preserved c =
    let p = c.param_at-at.ensures in
    let r = param_read c.args.m.now _ c.loop.counter _ _ _ c.loop.invariant.0 p.id p.value p.next in
    rw (add-one c.loop.counter) (r.next_is, omega arith)
