-- The loop of `nfcc::controller::next_id`.
use Prim.Native.Nat.{◌-◌}
use mathlib.Core.Path.{◌≡◌}
use Rattle.state.specs.Conn.{open_at}
use Rattle.nfcc.specs.Controller.{seek, next_id}
use Rattle.nfcc.proofs.controller.next_id.Given as goal

abbrev pub invariant-loop : goal.invariant-loop
invariant-loop l = seek (open_at l.conns) (4 - l.counter) l.id ≡ next_id (open_at l.conns) l.given
