-- `config::stored::row_ok` meets its contract.
use borrow.Author.Tests.{le-leb, lt-leb}
use Rattle.config.specs.Stored.{row_ok}
use Rattle.config.proofs.stored.row_ok.Goals as goal

pub returns-then-n-r : goal.returns-then-n-r
unfolding row_ok
returns-then-n-r c =
    let n = c.size_in-n.ensures in rw (← n, lt-leb _ _ c.if-n-r.true)

pub returns-then-r-n : goal.returns-then-r-n
unfolding row_ok
returns-then-r-n c =
    let n = c.size_in-n.ensures in rw (← n, le-leb _ _ c.if-n-r.false, lt-leb _ _ c.if-r-n.true)

pub returns : goal.returns
unfolding row_ok
returns c =
    let n = c.size_in-n.ensures in
    rw (c.clear_past.ensures, c.all_allowed.ensures, c.value_in-v.ensures, c.lead.ensures.value, ← n, le-leb _ _ c.if-n-r.false, le-leb _ _ c.if-r-n.false)
