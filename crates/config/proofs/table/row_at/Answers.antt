-- `config::table::row_at` meets its contract: the code's table is the definition's, row by row.
use borrow.Author.Rules.{rules}
use Rattle.config.specs.Table.{table, no_row, row_at}
use Rattle.config.proofs.Rows.{any_default}
use Rattle.config.proofs.table.row_at.Goals as goal

pub returns : goal.returns
unfolding table row_at
returns c = any_default table c.args.i _ no_row (search rules)
