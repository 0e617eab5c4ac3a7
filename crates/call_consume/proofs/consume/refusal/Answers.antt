-- `call_consume::consume::refusal` meets its contract: its tests are those of the rules on numbers.
use Rattle.std.proofs.Common.{rules, sym, ap, ◌∙◌, arith}
use Rattle.std.proofs.lemmas.Grind.{common_steps}
use Rattle.calls.specs.Outcome.{lowest}
use Rattle.calls.proofs.ConsumeRecord.{consume_tests_law}
use Rattle.call_consume.proofs.consume.refusal.Goals as goal

pub returns-in_err-when-2 : goal.returns-in_err-when-2
unfolding lowest
returns-in_err-when-2 c = λ a. search rules ∙ sym (ap lowest (consume_tests_law a c.args.r c.args.conn))

pub returns-in_err-when-3 : goal.returns-in_err-when-3
unfolding lowest
returns-in_err-when-3 c = λ a. search rules ∙ sym (ap lowest (consume_tests_law a c.args.r c.args.conn))

pub returns : goal.returns
unfolding lowest
returns c = λ a. grind (arith, common_steps) ∙ sym (ap lowest (consume_tests_law a c.args.r c.args.conn))
