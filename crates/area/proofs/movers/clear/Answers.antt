-- `area::movers::clear` meets its contract: the lent front is filled with 0.
use Rattle.area.specs.Map.{area_size}
use Rattle.area.proofs.Moves.{cleared}
use Rattle.area.proofs.movers.clear.Goals as goal

pub returns : goal.returns
returns c = cleared c.args.area.now _ area_size c.requires (c.fill.ensures.after (λ y e. e))
