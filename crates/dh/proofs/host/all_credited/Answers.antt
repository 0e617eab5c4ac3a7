-- `dh::host::all_credited` meets its contract, one connection after the other.
use Prim.Native.Nat.{ℕ}
use mathlib.Core.List.{List}
use Rattle.dh.specs.Kinds.{Counts}
use Rattle.dh.specs.Host.{credited_at}
use Rattle.state.proofs.Conns.{five}
use Rattle.dh.proofs.host.all_credited.Goals as goal

pub returns : goal.returns
returns c =
    let a = c.args in
    five (λ (l : List Counts) (k : ℕ). credited_at l a.m.now k)
    a.conns
    c.credited_at-a.result
    c.credited_at-b.result
    c.credited_at-c.result
    c.credited_at-d.result
    c.credited_at.result
    c.credited_at-a.ensures
    c.credited_at-b.ensures
    c.credited_at-c.ensures
    c.credited_at-d.ensures
    c.credited_at.ensures
