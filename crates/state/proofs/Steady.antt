-- The controller's own numbers within their limits.
-- Assumes nothing.
use Prim.Native.Nat.{◌≤◌}
use mathlib.Core.Path.{◌≡◌}
use mathlib.Core.Logic.{◌⊎◌}
use lib.ListN.{length}
use Rattle.state.specs.Kinds.{Controller}

-- the Conn ID last given is none or 2-5, and the pairs are up to 8, in 8 places
pub record Steady (k : Controller) : Type 0 where
  pub given : (k.given ≡ 0) ⊎ ((2 ≤ k.given) × (k.given ≤ 5))
  pub pairs : k.pairs.count ≤ 8
  pub places : length k.pairs.list ≡ 8
