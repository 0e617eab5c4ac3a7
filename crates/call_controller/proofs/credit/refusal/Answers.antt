-- `call_controller::credit::refusal` meets its contract: its tests are those of the rules on numbers.
use Rattle.std.proofs.Common.{rules, sym, ap, ◌∙◌, arith}
use Rattle.std.proofs.lemmas.Grind.{common_steps}
use Rattle.calls.specs.Outcome.{lowest}
use Rattle.calls.proofs.Credit.{credit_tests_law}
use Rattle.call_controller.proofs.credit.refusal.Goals as goal

pub returns-in_err-when : goal.returns-in_err-when
unfolding lowest
returns-in_err-when c = λ a. search rules ∙ sym (ap lowest (credit_tests_law a c.args.r (omega (arith, c.well_formed))))

pub returns : goal.returns
unfolding lowest
returns c = λ a. grind (arith, common_steps) ∙ sym (ap lowest (credit_tests_law a c.args.r (omega (arith, c.well_formed))))
