-- Runs in reassembly: what a segment leaves of octets.
-- Assumes nothing.
use Rattle.std.specs.Prelude.{ℕ, ◌+◌, length}
use Rattle.octets.specs.Octets.{Octets, pick, splice}
use Rattle.state.specs.declared.kinds.Progress.{Progress}
use Rattle.state.specs.Runs.{within}

-- the area after octets join a run that lies from base on: they stand after those that came before; past the limit none is kept
unfoldable pub run_area : ℕ → ℕ → Octets → Progress → Octets → Octets
run_area limit base a p b = pick (within limit p (length b)) (splice a (base + p.len) b) a
