-- A line of fields, `NAME=VALUE`, with one blank between two. A field is asked for by its name, without the equals sign; a line's fields are
-- taken from the front, one after the other.
-- Assumes nothing.
use Rattle.std.specs.Prelude.{◌+◌, Bool, ◌&&◌, [], length, drop, get_or, eqb}
use Rattle.octets.specs.Octets.{Octets, pick}
use Rattle.ascii.specs.Letters as letter
use Rattle.ascii.specs.Words.{starts_with, up_to}

-- the first field: what stands before the first blank
abbrev pub field_of : Octets → Octets
field_of = up_to letter.blank

-- what follows the first blank: nothing where there is none
abbrev pub after_field : Octets → Octets
after_field l = drop (length (field_of l) + 1) l

-- whether the first field has a name
abbrev pub has_field : Octets → Octets → Bool
has_field name l = starts_with (field_of l) name && eqb (get_or (field_of l) (length name) 0) letter.equals

-- whether it is the only one: no blank follows
abbrev pub only_field : Octets → Octets → Bool
only_field name l = has_field name l && eqb (length (field_of l)) (length l)

-- its value, what follows the equals sign: nothing where the field has another name
abbrev pub value_in : Octets → Octets → Octets
value_in name l = pick (has_field name l) (drop (length name + 1) (field_of l)) []
