-- `call_host::send::refusal` meets its contract: its tests are those of the rules on numbers.
use Rattle.std.proofs.Common.{sym, ap, ◌∙◌, arith}
use Rattle.std.proofs.lemmas.Grind.{common_steps}
use Rattle.calls.specs.Outcome.{lowest}
use Rattle.calls.proofs.Send.{send_tests_law}
use Rattle.call_host.proofs.send.refusal.Goals as goal

pub returns : goal.returns
unfolding lowest
returns c = λ a. grind (arith, common_steps) ∙ sym (ap lowest (send_tests_law a c.args.r c.args.conn c.args.message.now))
