-- `call_controller::reply::refusal` meets its contract: its tests are those of the rules on numbers.
use Rattle.std.proofs.Common.{rules, sym, ap, ◌∙◌}
use Rattle.calls.specs.Outcome.{lowest}
use Rattle.calls.proofs.Reply.{reply_tests_law}
use Rattle.call_controller.proofs.reply.refusal.Goals as goal

pub returns-in_err-when : goal.returns-in_err-when
unfolding lowest
returns-in_err-when c = λ a. search rules ∙ sym (ap lowest (reply_tests_law a c.args.r))
