-- Laws of values in the stored.
-- Assumes nothing.
use Prim.Native.Nat.{ℕ, ◌-◌, ◌≤◌}
use mathlib.Core.Path.{◌≡◌, ◌∙◌, ap}
use native.Mathlib.Nat.{sub-zero}
use lib.ListN.{take}
use Rattle.std.specs.Prelude.{replicate}
use Rattle.std.proofs.lemmas.List.{take-replicate}

-- the front of an array of 00
pub none_of : (k m n : ℕ) → m ≤ k → m ≡ n → take {A = ℕ} (m - 0) (replicate k 0) ≡ replicate n 0
none_of k m n h e = rw (sub-zero m) (take-replicate m k 0 h ∙ ap (λ (i : ℕ). replicate i 0) e)
