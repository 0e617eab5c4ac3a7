-- `call_host::push::refusal` meets its contract: its tests are those of the rules on numbers.
use Rattle.std.proofs.Common.{rules, sym, ap, ◌∙◌, arith}
use Rattle.std.proofs.lemmas.Grind.{common_steps}
use Rattle.calls.specs.Outcome.{lowest}
use Rattle.calls.proofs.Push.{push_tests_law}
use Rattle.call_host.proofs.push.refusal.Goals as goal

pub returns-in_err-when-2 : goal.returns-in_err-when-2
unfolding lowest
returns-in_err-when-2 c = λ a. search rules ∙ sym (ap lowest (push_tests_law a c.args.r c.args.conn))

pub returns-in_err-when-4 : goal.returns-in_err-when-4
unfolding lowest
returns-in_err-when-4 c = λ a. search rules ∙ sym (ap lowest (push_tests_law a c.args.r c.args.conn))

pub returns-in_err-when-5 : goal.returns-in_err-when-5
unfolding lowest
returns-in_err-when-5 c = λ a. search rules ∙ sym (ap lowest (push_tests_law a c.args.r c.args.conn))

pub returns : goal.returns
unfolding lowest
returns c = λ a. grind (arith, common_steps) ∙ sym (ap lowest (push_tests_law a c.args.r c.args.conn))
