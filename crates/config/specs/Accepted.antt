-- The values by ID, as someone counts them who sees commands and responses and never the record: what a set that was accepted leaves, and what a get must show.
-- Acceptance goes by the command's octets and the definition of an acceptable value (`accepted`).
-- Assumes nothing.
use Rattle.std.specs.Prelude.{ℕ, zero, suc, ◌&&◌, [], ◌∷◌, ◌++◌, length, eqb, Option, Some, None}
use Rattle.octets.specs.Octets.{Octets, pick}
use Rattle.config.specs.declared.table.Row.{Row}
use Rattle.config.specs.Table.{no_row, row_of, default_of}
use Rattle.config.specs.Commands.{id_in, param_in, settled, accepted, asked_in}

-- by ID
abbrev pub ById : Type 0
ById = ℕ → Octets

-- the default, by a row that may be there; of an ID that is not known it is that of the row past the table's end
abbrev pub default_by : Option Row → Octets
default_by None = default_of no_row
default_by (Some r) = default_of r

-- all restored
abbrev pub all_restored : ById
all_restored id = default_by (row_of id)

-- the value that a set leaves, by a row that may be there
abbrev pub settled_by : Option Row → Octets → Octets
settled_by None v = settled no_row v
settled_by (Some r) v = settled r v

-- after the first n parameters of a set: the value last accepted, else what it was
unfoldable pub last_accepted : Octets → ℕ → ById → ById
last_accepted m zero g id = g id
last_accepted m (suc n) g id =
    pick (accepted (id_in m n) (param_in m n) && eqb (id_in m n) id) (settled_by (row_of id) (param_in m n)) (last_accepted m n g id)

-- ID, length and value for each of the first n that a get asks for, in the order asked
unfoldable pub showing : ById → Octets → ℕ → Octets
showing g m zero = []
showing g m (suc n) = showing g m n ++ (asked_in m n ∷ length (g (asked_in m n)) ∷ g (asked_in m n))
