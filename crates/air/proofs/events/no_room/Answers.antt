-- `air::events::no_room` meets its contract: from what `is_listed` says. (The check finds this alone; a wrong number of pairs is refused by it in its own words.)
use Rattle.air.proofs.events.no_room.Goals as goal

pub returns : goal.returns
returns c = rw c.is_listed.ensures
