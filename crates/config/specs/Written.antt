-- Contents of the two responses that the bench's controller writes beside a status alone: the layouts at their exact lengths, with values that a parameter may
-- have. What stands after the status of an OK get response has the form of a set's list.
-- Assumes nothing.
use Rattle.std.specs.Prelude.{ℕ, zero, suc, ◌+◌, ◌*◌, Bool, true, ◌&&◌, not, length, get_or, eqb, leb}
use Rattle.octets.specs.Octets.{Octets, pick, cut}
use Rattle.state.specs.Names.{status_ok, invalid_param}
use Rattle.config.specs.Table.{row_of, known_row, acceptable_by}
use Rattle.config.specs.Commands.{count_in, param_at, id_in, param_in}

-- ---- CORE_SET_CONFIG_RSP

-- a set has at most 127 parameters; status OK exactly where none is invalid
unfoldable pub set_written : Octets → Bool
set_written m =
    eqb (length m) (2 + get_or m 1 0) && leb (get_or m 1 0) 127 && eqb (get_or m 0 0) (pick (eqb (get_or m 1 0) 0) status_ok invalid_param)

-- ---- CORE_GET_CONFIG_RSP

-- the first n parameters of a list have acceptable values
unfoldable pub values_written : Octets → ℕ → Bool
values_written m zero = true
values_written m (suc n) = values_written m n && acceptable_by (row_of (id_in m n)) (param_in m n)

-- the list ends with the payload
abbrev pub list_written : Octets → Bool
list_written m = eqb (param_at m (count_in m)) (length m) && values_written m (count_in m)

-- the first n of the IDs that are not known, each with length 0
unfoldable pub unavailable_written : Octets → ℕ → Bool
unavailable_written m zero = true
unavailable_written m (suc n) = unavailable_written m n && (not (known_row (row_of (get_or m (2 + 2 * n) 0))) && eqb (get_or m (3 + 2 * n) 0) 0x00)

unfoldable pub get_written : Octets → Bool
get_written m =
    pick (eqb (get_or m 0 0) status_ok) (leb 2 (length m) && list_written (cut 1 (length m) m))
    (eqb (get_or m 0 0) invalid_param && leb 1 (get_or m 1 0) && eqb (length m) (2 + 2 * get_or m 1 0) && unavailable_written m (get_or m 1 0))
