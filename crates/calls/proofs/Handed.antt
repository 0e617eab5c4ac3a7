-- A message that is handed out stands at the front of the buffer.
-- Assumes nothing.
use Prim.Native.Nat.{ℕ, ◌≤◌}
use native.Mathlib.Omega.{arith}
use mathlib.Core.Path.{◌≡◌, refl, sym, ap, ◌∙◌}
use mathlib.Core.Bool.{Bool, true, false}
use mathlib.Core.List.{[], ◌∷◌}
use lib.ListN.{length}
use Rattle.octets.specs.Octets.{Octets, pick, cut, splice}
use Rattle.octets.proofs.Octets.{cut_same}
use Rattle.state.specs.Runs.{handed_on}

-- b: whether there is one, m of len octets
pub handed_seen : (b : Bool) (m out : Octets) (len : ℕ) → (b ≡ true → length m ≡ len) → (b ≡ true → len ≤ length out)
    → pick b (cut 0 (pick b len 0) (pick b (splice out 0 m) out) ∷ []) [] ≡ handed_on b m
handed_seen true m out len long room =
    let fits = room refl in
    let whole = long refl in
    ap (λ (o : Octets). o ∷ []) (ap (λ (k : ℕ). cut 0 k (splice out 0 m)) (sym whole) ∙ cut_same out 0 m (omega arith))
handed_seen false m out len long room = refl
