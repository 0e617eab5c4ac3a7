-- src/table.rt:112:9
use Rattle.config.specs.Table.{acceptable}
use Rattle.config.proofs.table.acceptable.Goals as goal

-- src/table.rt:108:1
pub returns : goal.returns
unfolding acceptable
returns c = rw c.all_allowed-all.ensures
