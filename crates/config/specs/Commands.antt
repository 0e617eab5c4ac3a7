-- CORE_SET_CONFIG and CORE_GET_CONFIG (003, 4.3): their lists, what a set leaves, and both responses. All of it is said for every payload; a list that is cut
-- short is told by its end alone, and is refused before the rest is asked (`shortest` of the controller).
-- Assumes nothing.
use Rattle.std.specs.Prelude.{ℕ, zero, suc, ◌+◌, Bool, false, ◌||◌, [], ◌∷◌, ◌++◌, length, get_or, eqb, leb, Option, Some, None}
use Rattle.octets.specs.Octets.{Octets, pick, cut}
use Rattle.state.specs.Names.{status_ok, invalid_param, size_exceeded}
use Rattle.config.specs.declared.table.Row.{Row}
use Rattle.config.specs.Table.{row_of, known_row, acceptable, default_of}
use Rattle.config.specs.Stored.{value_of, with_value}

-- ---- CORE_SET_CONFIG_CMD (003, Table 11): the count, then ID, length and value for each

abbrev pub count_in : Octets → ℕ
count_in m = get_or m 0 0

-- where parameter n of the list stands: after the count and those before it. Of an octet past the end 0 is read, so a list is whole where
-- what would be after its last is no more than the payload's length
unfoldable pub param_at : Octets → ℕ → ℕ
param_at m zero = 1
param_at m (suc n) = param_at m n + 2 + get_or m (param_at m n + 1) 0

abbrev pub id_in : Octets → ℕ → ℕ
id_in m n = get_or m (param_at m n) 0

abbrev pub length_in : Octets → ℕ → ℕ
length_in m n = get_or m (param_at m n + 1) 0

abbrev pub param_in : Octets → ℕ → Octets
param_in m n = cut (param_at m n + 2) (length_in m n) m

-- length 0 restores the default
abbrev pub settled : Row → Octets → Octets
settled r v = pick (eqb (length v) 0) (default_of r) v

-- known, and with an acceptable value. Every default is one
abbrev pub accepted_by : Option Row → Octets → Bool
accepted_by None v = false
accepted_by (Some r) v = acceptable r (settled r v)

abbrev pub accepted : ℕ → Octets → Bool
accepted id v = accepted_by (row_of id) v

-- ---- what it sets

abbrev pub set_found : Option Row → Octets → Octets → Octets
set_found None v b = b
set_found (Some r) v b = pick (acceptable r (settled r v)) (with_value r (settled r v) b) b

abbrev pub set_one : ℕ → Octets → Octets → Octets
set_one id v b = set_found (row_of id) v b

-- after the first n parameters: in the order given; what is invalid changes nothing
unfoldable pub set_first : Octets → Octets → ℕ → Octets
set_first b m zero = b
set_first b m (suc n) = set_one (id_in m n) (param_in m n) (set_first b m n)

abbrev pub config_after : Octets → Octets → Octets
config_after b m = set_first b m (count_in m)

-- ---- CORE_SET_CONFIG_RSP: status, the count of invalid parameters, their IDs in the order given

unfoldable pub invalid_in : Octets → ℕ → Octets
invalid_in m zero = []
invalid_in m (suc n) = invalid_in m n ++ pick (accepted (id_in m n) (param_in m n)) [] (id_in m n ∷ [])

abbrev pub set_rsp : Octets → Octets
set_rsp m =
    pick (eqb (length (invalid_in m (count_in m))) 0) status_ok invalid_param
    ∷ length (invalid_in m (count_in m))
    ∷ invalid_in m (count_in m)

-- one of the first n parameters is known: such a set is taken in IDLE alone (003, 5.2.1)
unfoldable pub names_known : Octets → ℕ → Bool
names_known m zero = false
names_known m (suc n) = names_known m n || known_row (row_of (id_in m n))

-- ---- CORE_GET_CONFIG_CMD (003, Table 12): the count, then an ID for each

abbrev pub asked_in : Octets → ℕ → ℕ
asked_in m n = get_or m (1 + n) 0

-- ---- CORE_GET_CONFIG_RSP: status, count, then ID, length and value for each, in the order asked; or those not known, each with length 0

abbrev pub shown_one : Octets → ℕ → Octets
shown_one b id = id ∷ length (value_of b (row_of id)) ∷ value_of b (row_of id)

unfoldable pub shown_in : Octets → Octets → ℕ → Octets
shown_in b m zero = []
shown_in b m (suc n) = shown_in b m n ++ shown_one b (asked_in m n)

abbrev pub unavailable_one : ℕ → Octets
unavailable_one id = pick (known_row (row_of id)) [] (id ∷ 0x00 ∷ [])

unfoldable pub unavailable_in : Octets → ℕ → Octets
unavailable_in m zero = []
unavailable_in m (suc n) = unavailable_in m n ++ unavailable_one (asked_in m n)

unfoldable pub unavailable_count : Octets → ℕ → ℕ
unavailable_count m zero = 0
unavailable_count m (suc n) = unavailable_count m n + pick (known_row (row_of (asked_in m n))) 0 1

-- what would pass 255 octets is a status alone
abbrev pub within : Octets → Octets
within p = pick (leb (length p) 255) p (size_exceeded ∷ [])

abbrev pub get_rsp : Octets → Octets → Octets
get_rsp b m =
    within
    (pick (eqb (unavailable_count m (count_in m)) 0)
    (status_ok ∷ count_in m ∷ shown_in b m (count_in m))
    (invalid_param ∷ unavailable_count m (count_in m) ∷ unavailable_in m (count_in m)))
