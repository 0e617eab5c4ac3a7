-- The parts of the area lie one after the other, and together are its 36,864 octets.
-- Assumes nothing.
use mathlib.Core.Path.{refl}
use Rattle.area.specs.Map.{Sum}

pub sum : Sum
sum = record { stores = refl; hands = refl; host_runs = refl; controller_runs = refl; spare = refl; record_octets_law = refl }
