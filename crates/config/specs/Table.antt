-- The configuration parameters (003, Tables 24 to 32; IDs by Table 138): the one table, and which values a parameter may have.
-- Assumes nothing.
use Rattle.std.specs.Prelude.{ℕ, zero, suc, Bool, true, false, ◌&&◌, ◌||◌, List, [], ◌∷◌, length, get_or, eqb, leb, Option, Some, None, find, is_some}
use Rattle.octets.specs.Octets.{Octets, pick}
use Rattle.config.specs.declared.table.Row.{Row}
use Rattle.config.specs.declared.table.Values.{Values}
use Rattle.config.specs.declared.table.Values.TheVariants.{Range, BitRates}

-- ---- the table

-- ID; where its value stands among the octets of all; least and greatest length; the octet that it has by default, where its least length
-- is not 0; the octets that a value may have
abbrev pub row : ℕ → ℕ → ℕ → ℕ → ℕ → Values → Row
row id at least most default values =
    record { id = id; at = at; least = least; most = most; default = default; values = values }

unfoldable pub table : List Row
table =
    row 0x08 0 1 1 0x00 (Range 0x00 0x01)  -- PA_BAIL_OUT
    ∷ row 0x09 1 1 1 0x08 (Range 0x00 0xFF)  -- PA_DEVICES_LIMIT
    ∷ row 0x10 2 1 1 0x00 (Range 0x00 0xFF)  -- PB_AFI
    ∷ row 0x11 3 1 1 0x00 (Range 0x00 0x01)  -- PB_BAIL_OUT
    ∷ row 0x13 4 1 1 0x00 (Range 0x00 0xFF)  -- PB_SENSB_REQ_PARAM
    ∷ row 0x14 5 1 1 0x08 (Range 0x00 0xFF)  -- PB_DEVICES_LIMIT
    ∷ row 0x18 6 1 1 0x01 (Range 0x01 0x02)  -- PF_BIT_RATE
    ∷ row 0x19 7 1 1 0x00 (Range 0x00 0x01)  -- PF_BAIL_OUT
    ∷ row 0x1A 8 1 1 0x08 (Range 0x00 0xFF)  -- PF_DEVICES_LIMIT
    ∷ row 0x20 9 0 15 0x00 (Range 0x00 0xFF)  -- PI_B_H_INFO
    ∷ row 0x21 25 1 1 0x00 (Range 0x00 0x03)  -- PI_BIT_RATE
    ∷ row 0x28 26 1 1 0x00 (Range 0x00 0x01)  -- PN_NFC_DEP_PSL
    ∷ row 0x2A 27 1 1 0x30 (Range 0x00 0xFF)  -- PN_ATR_REQ_CONFIG
    ∷ row 0x2F 28 1 1 0x08 (Range 0x00 0xFF)  -- PV_DEVICES_LIMIT
    ∷ row 0x68 29 1 1 0x01 BitRates  -- PACM_BIT_RATE
    ∷ []

abbrev pub row_count : ℕ
row_count = 15

-- the octets of all values
abbrev pub config_size : ℕ
config_size = 30

-- what is read past the table's end. No length is from 1 to 0: no value is acceptable
abbrev pub no_row : Row
no_row =
    record { id = 0; at = 0; least = 1; most = 0; default = 0; values = Range 0 0 }

unfoldable pub row_at : ℕ → Row
row_at i = get_or table i no_row

-- the row of an ID, none for one that the controller does not know
unfoldable pub row_of : ℕ → Option Row
row_of id = find (λ (r : Row). eqb r.id id) table

abbrev pub known_row : Option Row → Bool
known_row r = is_some r

-- ---- values

-- Table 132 calls the other bit rates RFU
abbrev pub allowed_by : Values → ℕ → Bool
allowed_by (Range low high) x = leb low x && leb x high
allowed_by BitRates x = leb x 0x06 || eqb x 0x20 || (leb 0x80 x && leb x 0xFE)

-- the first n octets
unfoldable pub all_allowed : Values → Octets → ℕ → Bool
all_allowed vs v zero = true
all_allowed vs v (suc n) = all_allowed vs v n && allowed_by vs (get_or v n 0)

unfoldable pub acceptable : Row → Octets → Bool
acceptable r v = leb r.least (length v) && leb (length v) r.most && all_allowed r.values v (length v)

-- by a row that may be there: a parameter that is not known has no acceptable value
abbrev pub acceptable_by : Option Row → Octets → Bool
acceptable_by None v = false
acceptable_by (Some r) v = acceptable r v

-- a parameter of least length 0 has no octet by default
abbrev pub default_of : Row → Octets
default_of r = pick (eqb r.least 0) [] (r.default ∷ [])
