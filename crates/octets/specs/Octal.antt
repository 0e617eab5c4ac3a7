-- Lists of octets hold octets: what the types of the code say of a slice, and a list of numbers does not say by itself.
-- Assumes nothing.
use Rattle.std.specs.Prelude.{ℕ, ◌≤◌, [], ◌∷◌}
use Rattle.octets.specs.Octets.{Octets}

-- each is at most 255
pub data Octal : Octets → Type 0 where
  octal_nil : Octal []
  octal_cons : {x : ℕ} {l : Octets} → x ≤ 255 → Octal l → Octal (x ∷ l)
