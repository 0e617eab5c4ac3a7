-- `config::written::get_written` meets its contract.
use borrow.Author.Tests.{eq-eqb, ne_eqb}
use Rattle.config.specs.Written.{get_written}
use Rattle.config.proofs.written.get_written.Goals as goal

pub returns-then-status-eq-STATUS_OK : goal.returns-then-status-eq-STATUS_OK
unfolding get_written
returns-then-status-eq-STATUS_OK c =
    let status = eq-eqb _ _ c.if-status-eq-STATUS_OK.true in
    rw (c.list_written-list.ensures, c.window.ensures, ← c.octet_at-status.ensures, status)

pub returns : goal.returns
unfolding get_written
returns c =
    let status = ne_eqb _ _ c.if-status-eq-STATUS_OK.false in
    rw (c.unavailable_written-unavailable.ensures, c.octet_at-n.ensures, ← c.octet_at-status.ensures, status)
