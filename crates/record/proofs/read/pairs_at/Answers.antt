-- `record::read::pairs_at` meets its contract, element by element.
use Rattle.std.proofs.Common.{rules, get_or, ◌+◌, ◌≡◌}
use Rattle.state.specs.Radio.{no_pair}
use Rattle.record.specs.Reading.{pairs_at}
use Rattle.record.proofs.Elements.{pairs_each}
use Rattle.record.proofs.read.pairs_at.Goals as goal

pub returns : goal.returns
unfolding pairs_at
returns c =
    let m = c.from_fn.ensures.items in
    let list = pairs_each c.args.s.now c.args.at c.from_fn.result m.long (λ k l. let e = m.at k no_pair l in search rules) in
    let count : c.from.result ≡ get_or c.args.s.now (c.args.at + 16) 0 = search rules in
    λ i. record { list = list i; count = count i }
