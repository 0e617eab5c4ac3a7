-- `bench::attempt::state` meets its contract: not entered, or taken.
use Rattle.calls.specs.Look.{looked, state_call}
use mathlib.Core.Path.{refl, ◌∙◌}
use lib.ListN.{length}
use Rattle.calls.specs.Outcome.{outcome, lowest}
use Rattle.calls.proofs.Called.{entered, called_unentered, called_taken}
use Rattle.calls.proofs.Rules.{some_of}
use Rattle.bench.proofs.Given.{given}
use Rattle.bench.proofs.attempt.state.Goals as goal

pub returns-in_err-r : goal.returns-in_err-r
unfolding state_call
returns-in_err-r c =
    (λ i. outcome (given _ _ c.from_residual.ensures i) c.args.area.now c.args.out.now)
    ∙ called_unentered _ _ c.args.area.now c.args.out.now _ c.in_err-r.ensures.answer (some_of _)

pub act-requires : goal.act-requires
act-requires c =
    (entered c.args.area.now (length c.args.out.now) c.in_ok-r.ensures.answer).room

pub returns : goal.returns
unfolding state_call lowest
returns c =
    let a = c.args.area.now in
    let out = c.args.out.now in
    let e = c.in_ok-r.ensures in
    let same = e.loads in
    (λ i. outcome (c.act.ensures.0 i) a (c.act.ensures.1 i))
    ∙ (λ i. looked (same i) a out)
    ∙ called_taken _ _ a out e.answer refl refl
