-- `call_run::run::act` meets its contract.
use Prim.Native.Nat.{ℕ, ◌+◌}
use native.Mathlib.Omega.{arith}
use mathlib.Core.Path.{◌≡◌, refl, sym, ap, ◌∙◌}
use mathlib.Core.Bool.{◌||◌}
use lib.Dec.{eqb}
use Rattle.calls.specs.Outcome.{outcome}
use Rattle.calls.specs.Run.{moves_on, told}
use Rattle.call_run.proofs.Turns.{bit_one, so, press_from, turn_ends, turn_hands, turn_goes, turn_limit}
use Rattle.call_run.proofs.run.act.Goals as goal

pub loop-made-init : goal.loop-made-init
unfolding moves_on
loop-made-init c = refl

pub returns-in_default : goal.returns-in_default
returns-in_default c =
    let l = c.loop-made in
    let none = c.in_default.ensures in
    (λ i. outcome (c.word.ensures i) (none.1 i) (none.2 i))
    ∙ ap told (turn_ends l.made l.last l.dropped l.area l.out c.loop-made-test.true none.0 ∙ l.invariant)

pub returns-then-handed : goal.returns-then-handed
returns-then-handed c =
    let l = c.loop-made in
    let x = c.in-Some.ensures in
    let flag = ap (λ (n : ℕ). eqb n 1) c.dropped.ensures ∙ bit_one _ in
    (λ i. outcome (c.word-then-handed.ensures i) c.play.new.area c.play.new.out)
    ∙ (λ i. told (so (l.made + 1) (l.dropped || flag i) c.in-Some.w c.play.new.area c.play.new.out))
    ∙ ap told
    (turn_hands l.made l.last l.dropped l.area l.out c.loop-made-test.true _ _ _ x.0 x.1 x.2 (sym c.handed.ensures ∙ c.if-handed.true) ∙ l.invariant)

pub loop-made-preserved : goal.loop-made-preserved
loop-made-preserved c =
    let l = c.loop-made in
    let x = c.in-Some.ensures in
    let flag = ap (λ (n : ℕ). eqb n 1) c.dropped.ensures ∙ bit_one _ in
    (λ i. press_from (l.made + 1) (l.dropped || flag i) c.in-Some.w c.play.new.area c.play.new.out)
    ∙ turn_goes l.made l.last l.dropped l.area l.out c.loop-made-test.true _ _ _ x.0 x.1 x.2 (sym c.handed.ensures ∙ c.if-handed.false)
    ∙ l.invariant

pub returns : goal.returns
returns c =
    let l = c.loop-made in
    (λ i. outcome (c.word-2.ensures i) l.area l.out)
    ∙ (λ i. told (so (full i) l.dropped l.last l.area l.out))
    ∙ ap told (turn_limit l.made l.last l.dropped l.area l.out (omega (arith, c.loop-made-test.false)) ∙ l.invariant)
  where
    full : 65535 ≡ c.loop-made.made
    full = omega (arith, c.loop-made-test.false, c.loop-made.auto.made-end)
