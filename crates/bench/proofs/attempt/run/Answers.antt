-- `bench::attempt::run` meets its contract: not entered, or moves until none is left.
use mathlib.Core.Path.{◌∙◌}
use lib.ListN.{length}
use Rattle.calls.specs.Outcome.{outcome}
use Rattle.calls.proofs.Called.{entered}
use Rattle.calls.proofs.Run.{run_shut, run_entered}
use Rattle.calls.proofs.Rules.{some_of}
use Rattle.bench.proofs.Given.{given}
use Rattle.bench.proofs.attempt.run.Goals as goal

pub returns-in_err-enter : goal.returns-in_err-enter
returns-in_err-enter c =
    (λ i. outcome (given _ _ c.from_residual.ensures i) c.args.area.now c.args.out.now)
    ∙ run_shut c.args.area.now c.args.out.now _ c.in_err-enter.ensures.answer (some_of _)

pub returns : goal.returns
returns c =
    let e = c.in_ok-enter.ensures in
    c.act.ensures
    ∙ run_entered c.args.area.now c.args.out.now
    (entered c.args.area.now (length c.args.out.now) e.answer)
