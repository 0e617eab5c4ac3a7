-- `state::conn::all_noticed` meets its contract: the five connections are all of the array.
use Rattle.std.proofs.Common.{rules}
use Rattle.state.specs.Conn.{noticed_side}
use Rattle.state.proofs.Conns.{mapped}
use Rattle.state.proofs.conn.all_noticed.Goals as goal

pub returns : goal.returns
returns c =
    mapped (λ k. record { host = k.host; controller = noticed_side k.controller }) c.args.conns c.each.result (search rules) (search rules)
    (λ p l. let e = c.each.ensures p l in search rules)
