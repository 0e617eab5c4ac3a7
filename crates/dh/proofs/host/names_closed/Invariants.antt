-- The loop of `dh::host::names_closed`.
use mathlib.Core.Path.{◌≡◌}
use Rattle.state.specs.Conn.{held_open}
use Rattle.dh.specs.Host.{names_closed}
use Rattle.dh.proofs.host.names_closed.Given as goal

abbrev pub invariant-loop-i : goal.invariant-loop-i
invariant-loop-i l = l.closed ≡ names_closed (held_open l.conns) l.m l.i
