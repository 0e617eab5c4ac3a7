-- `call_host::command::refusal` meets its contract: its tests are those of the rules on numbers, and no sum passes its type.
use Rattle.std.proofs.Common.{sym, ap, ◌∙◌, arith}
use Rattle.std.proofs.lemmas.Grind.{common_steps}
use Rattle.calls.specs.Outcome.{lowest}
use Rattle.calls.proofs.Command.{command_tests_law}
use Rattle.call_host.proofs.command.refusal.Goals as goal

pub returns-in_err-when-2 : goal.returns-in_err-when-2
unfolding lowest
returns-in_err-when-2 c = λ a. grind (arith, common_steps) ∙ sym (ap lowest (command_tests_law a c.args.r c.args.gid c.args.oid c.args.payload.now))
