-- Octets as one number in hexadecimal digits, for lists that are written out.
-- Assumes nothing.
use Rattle.std.specs.Prelude.{ℕ, zero, suc, ◌%◌, ◌/◌, [], ◌∷◌}
use Rattle.octets.specs.Octets.{Octets}

abbrev hex_before : Octets → ℕ → ℕ → Octets
hex_before m zero x = m
hex_before m (suc n) x = hex_before (x % 256 ∷ m) n (x / 256)

-- n octets: hex 3 0x0102FF is 1 ∷ 2 ∷ 255 ∷ []
abbrev pub hex : ℕ → ℕ → Octets
hex n x = hex_before [] n x
