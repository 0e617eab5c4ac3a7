-- `bench::attempt::report` meets its contract: not entered, refused, or taken.
use Rattle.model.specs.calls.Report.{report_rules}
use Rattle.calls.specs.calls.Report.{reported, report_call}
use Rattle.calls.proofs.Report.{report_able}
use mathlib.Core.Path.{subst}
use Rattle.record.specs.Fit.{Fit}
use mathlib.Core.Path.{refl, sym, ◌∙◌}
use lib.ListN.{length}
use Rattle.views.specs.View.{view}
use Rattle.calls.specs.Outcome.{outcome, lowest}
use Rattle.calls.proofs.Called.{entered, called_unentered, called_refused, called_taken}
use Rattle.calls.proofs.Rules.{some_of}
use Rattle.bench.proofs.Given.{given}
use Rattle.bench.proofs.attempt.report.Goals as goal

pub returns-in_err-r : goal.returns-in_err-r
unfolding report_call
returns-in_err-r c =
    (λ i. outcome (given _ _ c.from_residual.ensures i) c.args.area.now c.args.out.now)
    ∙ called_unentered _ _ c.args.area.now c.args.out.now _ c.in_err-r.ensures.answer (some_of _)

pub returns-in_err-refusal : goal.returns-in_err-refusal
unfolding report_call
returns-in_err-refusal c =
    let a = c.args.area.now in
    let out = c.args.out.now in
    let e = c.in_ok-r.ensures in
    let same = e.loads in
    let n = c.in_err-refusal.ensures a ∙ (λ i. lowest (report_rules c.args.conn (view a (same i)))) in
    (λ i. outcome (given _ _ c.from_residual-in_err-refusal.ensures i) a out) ∙ called_refused _ _ a out e.answer _ n (some_of _)

pub act-requires : goal.act-requires
act-requires c =
    let a = c.args.area.now in
    let out = c.args.out.now in
    let e = c.in_ok-r.ensures in
    let x = entered a (length out) e.answer in
    let r = c.in_ok-r.r in
    let fit = subst Fit (sym (e.loads)) x.sound.fit in
    (x.long, x.room, report_able a r c.args.conn fit (c.in_ok-refusal.ensures a))

pub returns : goal.returns
unfolding report_call
returns c =
    let a = c.args.area.now in
    let out = c.args.out.now in
    let e = c.in_ok-r.ensures in
    let same = e.loads in
    let none = c.in_ok-refusal.ensures a ∙ (λ i. lowest (report_rules c.args.conn (view a (same i)))) in
    (λ i. outcome (c.act.ensures.0 i) a (c.act.ensures.1 i))
    ∙ (λ i. reported (same i) c.args.conn a out)
    ∙ called_taken _ _ a out e.answer refl none
