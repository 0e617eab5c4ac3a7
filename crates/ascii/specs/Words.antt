-- Words of a text.
-- Assumes nothing.
use Rattle.std.specs.Prelude.{ℕ, Bool, true, false, ◌&&◌, List, [], ◌∷◌, length, eqb}
use Rattle.octets.specs.Octets.{Octets, pick, cut}

-- whether two texts have the same characters
unfoldable pub same_as : Octets → Octets → Bool
same_as [] [] = true
same_as [] (y ∷ m) = false
same_as (x ∷ l) [] = false
same_as (x ∷ l) (y ∷ m) = eqb x y && same_as l m

-- whether a text starts with a word
unfoldable pub starts_with : Octets → Octets → Bool
starts_with l w = same_as (cut 0 (length w) l) w

-- the characters before the first c
unfoldable pub up_to : ℕ → Octets → Octets
up_to c [] = []
up_to c (x ∷ l) = pick (eqb x c) [] (x ∷ up_to c l)

-- the words between blanks
unfoldable pub ahead : ℕ → List Octets → List Octets
ahead x [] = (x ∷ []) ∷ []
ahead x (w ∷ ws) = (x ∷ w) ∷ ws

unfoldable pub words : Octets → List Octets
words [] = [] ∷ []
words (x ∷ l) = pick (eqb x 32) ([] ∷ words l) (ahead x (words l))
