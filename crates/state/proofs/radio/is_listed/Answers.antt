-- `state::radio::is_listed` meets its contract: the places looked at are those that the definition looks at.
use Rattle.std.proofs.Common.{rules, ◌∙◌}
use Rattle.state.proofs.Found.{found}
use Rattle.state.proofs.radio.is_listed.Goals as goal

pub returns : goal.returns
returns c = c.contains.ensures.value ∙ found c.args.ps c.args.p (search rules) c.min.result c.min.ensures
