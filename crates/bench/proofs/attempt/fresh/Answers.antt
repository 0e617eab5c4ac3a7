-- `bench::attempt::fresh` meets its contract: refused, or taken.
use mathlib.Core.Path.{◌∙◌}
use Rattle.calls.specs.Outcome.{outcome}
use Rattle.calls.proofs.FreshPower.{fresh_refused, fresh_long, fresh_taken}
use Rattle.calls.proofs.Rules.{some_of}
use Rattle.bench.proofs.Given.{given}
use Rattle.bench.proofs.attempt.fresh.Goals as goal

pub returns-in_err-refusal : goal.returns-in_err-refusal
returns-in_err-refusal c =
    let a = c.args.area.now in
    (λ i. outcome (given _ _ c.from_residual.ensures i) a c.args.out.now) ∙ fresh_refused a c.args.out.now c.args.profile.now _ (c.in_err-refusal.ensures a) (some_of _)

pub act-requires : goal.act-requires
act-requires c =
    let a = c.args.area.now in
    fresh_long a c.args.out.now c.args.profile.now (c.in_ok-refusal.ensures a)

pub returns : goal.returns
returns c =
    let a = c.args.area.now in
    let out = c.args.out.now in
    let none = c.in_ok-refusal.ensures a in
    (λ i. outcome (c.act.ensures.0 i) (c.act.ensures.1 i) out) ∙ fresh_taken a out c.args.profile.now none
