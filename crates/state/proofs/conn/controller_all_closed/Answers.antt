-- `state::conn::controller_all_closed` meets its contract: the five connections are all of the array.
use Rattle.std.proofs.Common.{rules}
use Rattle.state.specs.Conn.{closed_controller}
use Rattle.state.proofs.Conns.{mapped}
use Rattle.state.proofs.conn.controller_all_closed.Goals as goal

pub returns : goal.returns
returns c =
    mapped (λ k. record { host = k.host; controller = closed_controller }) c.args.conns c.each.result (search rules) (search rules)
    (λ p l. let e = c.each.ensures p l in search rules)
