-- `conns.iter().all(..)`: that nothing is owed on any connection.
-- Assumes nothing.
use mathlib.Core.Path.{◌≡◌, refl, ap}
use mathlib.Core.Bool.{Bool, ◌&&◌}
use mathlib.Core.List.{List, [], ◌∷◌}
use lib.Dec.{eqb}
use Rattle.std.specs.List.{list_all}
use Rattle.calls.specs.Kinds.{Counts}
use Rattle.messages.specs.Layout.{owed_on, owed_of}
use Rattle.model.specs.calls.Credit.{all_zero}

pub owed_all : (l : List Counts) → list_all (λ (k : Counts). eqb (owed_on k.controller) 0) l ≡ all_zero (owed_of l)
unfolding all_zero
owed_all [] = refl
owed_all (k ∷ l) = ap (λ (t : Bool). eqb (owed_on k.controller) 0 && t) (owed_all l)
