-- Octets and numbers as text, and the text read again.
-- Assumes nothing.
use Rattle.std.specs.Prelude.{ℕ, ◌+◌, ◌-◌, ◌*◌, ◌/◌, ◌%◌, Bool, true, ◌&&◌, Option, Some, None, [], ◌∷◌, length, drop, ltb, eqb}
use Rattle.octets.specs.Octets.{Octets, pick}

-- ---- capital hexadecimal digits

-- the digit of a number's low four bits: 0-9 from 48 on, A-F from 65 on
unfoldable pub digit_of : ℕ → ℕ
digit_of n = pick (ltb (n % 16) 10) (48 + n % 16) (55 + n % 16)

-- the value of a digit; 16 for any other character
unfoldable pub value_of : ℕ → ℕ
value_of c = pick (ltb c 48) 16 (pick (ltb c 58) (c - 48) (pick (ltb c 65) 16 (pick (ltb c 71) (c - 55) 16)))

-- the value of a digit, where it is one
abbrev pub digit_value : ℕ → Option ℕ
digit_value c = pick (ltb (value_of c) 16) (Some (value_of c)) None

-- octets as pairs of digits
unfoldable pub hex_of : Octets → Octets
hex_of [] = []
hex_of (x ∷ l) = digit_of (x / 16) ∷ digit_of x ∷ hex_of l

-- digits and nothing else
unfoldable pub all_digits : Octets → Bool
all_digits [] = true
all_digits (c ∷ l) = ltb (value_of c) 16 && all_digits l

-- pairs of digits
unfoldable pub is_hex : Octets → Bool
is_hex l = eqb (length l % 2) 0 && all_digits l

-- the octets that pairs of digits are
unfoldable pub octets_in : Octets → Octets
octets_in [] = []
octets_in (h ∷ []) = []
octets_in (h ∷ (l ∷ rest)) = (value_of h * 16 + value_of l) ∷ octets_in rest

-- ---- decimal numbers, below 100,000

-- the digit of a number's ones
abbrev pub figure_of : ℕ → ℕ
figure_of n = 48 + n % 10

abbrev pub figures_of : ℕ → Octets
figures_of n = figure_of (n / 10000) ∷ figure_of (n / 1000) ∷ figure_of (n / 100) ∷ figure_of (n / 10) ∷ figure_of n ∷ []

-- how many of them are zeros in front, which are not written
unfoldable pub leading_in : ℕ → ℕ
leading_in n = pick (ltb n 10) 4 (pick (ltb n 100) 3 (pick (ltb n 1000) 2 (pick (ltb n 10000) 1 0)))

unfoldable pub decimal_of : ℕ → Octets
decimal_of n = drop (leading_in n) (figures_of n)

-- the number that decimal digits are, after those of n
unfoldable pub number_from : ℕ → Octets → ℕ
number_from n [] = n
number_from n (c ∷ l) = number_from (n * 10 + (c - 48)) l
