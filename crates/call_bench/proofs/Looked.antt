-- The octets of each connection, one after another.
-- Assumes nothing.
use mathlib.Core.Path.{◌≡◌, refl}
use mathlib.Core.List.{List, [], ◌∷◌, map}
use native.Mathlib.Omega.{arith}
use lib.ListN.{length}
use Rattle.std.specs.List.{flat_map}
use Rattle.calls.specs.Kinds.{Counts}
use Rattle.calls.specs.Look.{counts_look, conns_look}

pub conns_flat : (l : List Counts) → length l ≡ 5 → flat_map (λ x. x) (map counts_look l) ≡ conns_look l
unfolding conns_look
conns_flat [] e = absurd (omega arith)
conns_flat (a ∷ []) e = absurd (omega arith)
conns_flat (a ∷ b ∷ []) e = absurd (omega arith)
conns_flat (a ∷ b ∷ c ∷ []) e = absurd (omega arith)
conns_flat (a ∷ b ∷ c ∷ d ∷ []) e = absurd (omega arith)
conns_flat (a ∷ b ∷ c ∷ d ∷ f ∷ []) e = refl
conns_flat (a ∷ b ∷ c ∷ d ∷ f ∷ g ∷ l) e = absurd (omega arith)
