-- What movers leave in the area, where one splice does not say it: a cleared area, and the packets of a message put one after the other.
-- Assumes nothing.
use Rattle.std.specs.Prelude.{ℕ, zero, suc, List, [], ◌∷◌}
use Rattle.octets.specs.Octets.{Octets, splice}
use Rattle.state.specs.declared.kinds.Ring.{Ring}
use Rattle.area.specs.Map.{wire_slots}
use Rattle.area.specs.Ring.{free_at, put_into}

-- n octets, each 0
unfoldable pub zeros : ℕ → Octets
zeros zero = []
zeros (suc n) = 0 ∷ zeros n

-- the area after packets are put, one after the other, into the first free slots of a wire
unfoldable pub puts_all : ℕ → Octets → Ring → List Octets → Octets
puts_all base a r [] = a
puts_all base a r (p ∷ ps) = puts_all base (splice a (free_at base wire_slots r) p) (put_into r) ps
