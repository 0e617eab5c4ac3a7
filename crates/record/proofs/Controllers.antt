-- The controller's own numbers: those within their limits are those that row 1 lets pass.
-- Assumes nothing.
use Prim.Native.Nat.{◌≤◌}
use mathlib.Core.Path.{◌≡◌, refl}
use mathlib.Core.Logic.{◌⊎◌, inl, inr}
use mathlib.Core.Bool.{Bool, true, false}
use lib.ListN.{length}
use lib.Dec.{eqb}
use borrow.Author.Tests.{eqb-true, eqb-false}
use Rattle.record.specs.Kinds.{Controller}
use Rattle.state.proofs.Steady.{Steady}
use Rattle.record.specs.Layout.{pairs_room}
use Rattle.record.specs.Fit.{FitController}

pub steady_fits : (k : Controller) → Steady k → FitController k
steady_fits k s = record { pairs = s.pairs; given = λ ne. go ne s.given }
  where
    go : (k.given ≡ 0 → ⊥) → (k.given ≡ 0) ⊎ ((2 ≤ k.given) × (k.given ≤ 5)) → (2 ≤ k.given) × (k.given ≤ 5)
    go ne (inl e) = absurd (ne e)
    go ne (inr h) = h

pub fits_steady : (k : Controller) → FitController k → length k.pairs.list ≡ pairs_room → Steady k
fits_steady k f n = record { given = go (eqb k.given 0) refl; pairs = f.pairs; places = n }
  where
    go : (b : Bool) → eqb k.given 0 ≡ b → (k.given ≡ 0) ⊎ ((2 ≤ k.given) × (k.given ≤ 5))
    go true e = inl (eqb-true k.given 0 e)
    go false e = inr (f.given (eqb-false k.given 0 e))
