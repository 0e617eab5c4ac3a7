-- `config::written::values_written` meets its contract. The loop's invariant: at is where parameter i stands, and ok says whether those before it are acceptable.
use native.Mathlib.Omega.{arith}
use native.Mathlib.Numerals.{add-one}
use mathlib.Core.Path.{refl, ◌∙◌}
use mathlib.Core.Bool.{◌&&◌}
use Rattle.config.specs.Table.{row_of, acceptable_by}
use Rattle.config.specs.Commands.{param_at}
use Rattle.config.specs.Written.{values_written}
use Rattle.config.proofs.Lists.{param_read}
use Rattle.config.proofs.written.values_written.Goals as goal

pub loop-init : goal.loop-init
unfolding param_at values_written
loop-init c = (refl, refl, omega arith)

pub loop-preserved : goal.loop-preserved
unfolding values_written
loop-preserved c =
    let p = c.param_at-p.ensures in
    let r = param_read c.args.m.now _ c.loop.counter _ _ _ c.loop.invariant.1 p.id p.value p.next in
    let one = c.acceptable_by-ok.ensures ∙ (λ k. acceptable_by (row_of (r.id_is k)) (r.value_is k)) in
    rw (add-one c.loop.counter) (λ k. c.loop.invariant.0 k && one k, r.next_is, omega arith)
