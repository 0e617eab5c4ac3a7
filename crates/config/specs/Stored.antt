-- The values as octets of the record: one for each parameter of fixed length, and its length before one whose length varies, 0 past its end.
-- Assumes nothing.
use Rattle.std.specs.Prelude.{ℕ, zero, suc, ◌+◌, ◌-◌, Bool, true, ◌&&◌, List, [], ◌∷◌, length, get_or, replicate, eqb, leb, Option, Some, None}
use Rattle.octets.specs.Octets.{Octets, pick, cut, splice}
use Rattle.config.specs.declared.table.Row.{Row}
use Rattle.config.specs.Table.{row_at, row_count, default_of, all_allowed}

abbrev pub is_fixed : Row → Bool
is_fixed r = eqb r.least r.most

-- the octets before the value: its length, if that varies
abbrev pub lead : Row → ℕ
lead r = pick (is_fixed r) 0 1

-- how many octets a parameter takes
abbrev pub room : Row → ℕ
room r = lead r + r.most

-- ---- read

abbrev pub size_in : Octets → Row → ℕ
size_in b r = pick (is_fixed r) r.most (get_or b r.at 0)

-- a length past the greatest reads no octet of another parameter
unfoldable pub value_in : Octets → Row → Octets
value_in b r = cut 0 (size_in b r) (cut (r.at + lead r) r.most b)

-- the value by a row that may be there: a parameter that is not known has none
abbrev pub value_of : Octets → Option Row → Octets
value_of b None = []
value_of b (Some r) = value_in b r

-- ---- written

abbrev pub form_of : Row → Octets → Octets
form_of r v = pick (is_fixed r) v (length v ∷ v)

-- the parameter's octets are cleared, then the value is written
unfoldable pub with_value : Row → Octets → Octets → Octets
with_value r v b = splice (splice b r.at (replicate (room r) 0x00)) r.at (form_of r v)

-- ---- by default

unfoldable pub restored : List Row → Octets → Octets
restored [] b = b
restored (r ∷ rs) b = restored rs (with_value r (default_of r) b)

-- all values by default
abbrev pub defaults : Octets
defaults =
    0x00 ∷ 0x08 ∷ 0x00 ∷ 0x00 ∷ 0x00 ∷ 0x08 ∷ 0x01 ∷ 0x00 ∷ 0x08
    ∷ 0x00 ∷ 0x00 ∷ 0x00 ∷ 0x00 ∷ 0x00 ∷ 0x00 ∷ 0x00 ∷ 0x00 ∷ 0x00 ∷ 0x00 ∷ 0x00 ∷ 0x00 ∷ 0x00 ∷ 0x00 ∷ 0x00 ∷ 0x00
    ∷ 0x00 ∷ 0x00 ∷ 0x30 ∷ 0x08 ∷ 0x01 ∷ []

-- ---- row 1

-- the n octets from index i on are all 00
unfoldable pub zeros : Octets → ℕ → ℕ → Bool
zeros b i zero = true
zeros b i (suc n) = zeros b i n && eqb (get_or b (i + n) 0) 0x00

-- an acceptable value, and 00 past its end
unfoldable pub row_ok : Octets → Row → Bool
row_ok b r =
    leb r.least (size_in b r) && leb (size_in b r) r.most && all_allowed r.values (value_in b r) (length (value_in b r))
    && zeros b (r.at + lead r + size_in b r) (r.most - size_in b r)

-- of the first n rows
unfoldable pub rows_ok : Octets → ℕ → Bool
rows_ok b zero = true
rows_ok b (suc n) = rows_ok b n && row_ok b (row_at n)

abbrev pub parameters_ok : Octets → Bool
parameters_ok b = rows_ok b row_count
