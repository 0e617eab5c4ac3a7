-- `record::read::conns_at` meets its contract, element by element.
use Rattle.std.proofs.Common.{rules}
use Rattle.state.specs.Conn.{closed_counts}
use Rattle.record.proofs.Elements.{conns_each}
use Rattle.record.proofs.read.conns_at.Goals as goal

pub returns : goal.returns
returns c =
    let m = c.from_fn.ensures.items in
    conns_each c.args.s.now c.args.at c.from_fn.result m.long (λ k l. let e = m.at k closed_counts l in search rules)
