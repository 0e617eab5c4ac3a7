-- `call_run::choice::next` meets its contract.
use native.Mathlib.Omega.{arith}
use mathlib.Core.Path.{refl, sym, ◌∙◌}
use Rattle.views.specs.View.{view}
use Rattle.call_run.proofs.Moves.{none_in, possible_here, refused_here, none_here}
use Rattle.call_run.proofs.choice.next.Goals as goal

pub loop-m-init : goal.loop-m-init
loop-m-init c = refl

pub returns-then-is_ok : goal.returns-then-is_ok
returns-then-is_ok c =
    let l = c.loop-m in
    let ok = sym c.is_ok.ensures.value ∙ c.if-is_ok.true in
    record {
      result_value = possible_here (view c.args.area.now c.args.r) l.m-index (omega (arith, c.loop-m-test.true)) _ ok c.refusal.ensures ∙ l.invariant;
      possible = none_in _ ok ∙ c.refusal.ensures;
    }

pub loop-m-preserved : goal.loop-m-preserved
loop-m-preserved c =
    let l = c.loop-m in
    refused_here (view c.args.area.now c.args.r) l.m-index (omega (arith, c.loop-m-test.true)) _ (sym c.is_ok.ensures.value ∙ c.if-is_ok.false) c.refusal.ensures ∙ l.invariant

pub returns : goal.returns
returns c =
    let l = c.loop-m in
    record { result_value = none_here (view c.args.area.now c.args.r) l.m-index (omega (arith, c.loop-m-test.false)) (omega (arith, l.auto.m-index-end)) ∙ l.invariant; possible = tt }
