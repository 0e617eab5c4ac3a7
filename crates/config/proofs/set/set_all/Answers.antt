-- `config::set::set_all` meets its contract. The loop's invariant: at is where parameter i stands, and those before it are set.
use native.Mathlib.Omega.{arith}
use native.Mathlib.Numerals.{add-one}
use mathlib.Core.Path.{refl, ◌∙◌}
use Rattle.config.specs.Commands.{param_at, set_one, set_first}
use Rattle.config.proofs.Lists.{param_read}
use Rattle.config.proofs.set.set_all.Goals as goal

pub loop-init : goal.loop-init
unfolding param_at set_first
loop-init c = (refl, refl, omega arith)

pub loop-preserved : goal.loop-preserved
unfolding set_first
loop-preserved c =
    let p = c.param_at-p.ensures in
    let r = param_read c.args.m.now _ c.loop.counter _ _ _ c.loop.invariant.1 p.id p.value p.next in (
      rw (add-one c.loop.counter) (c.set_one.ensures ∙ (λ i. set_one (r.id_is i) (r.value_is i) (c.loop.invariant.0 i))),
      rw (add-one c.loop.counter) r.next_is,
      omega arith,
    )
