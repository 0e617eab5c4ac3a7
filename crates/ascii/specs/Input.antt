-- Input that comes in pieces, taken line by line.
-- Assumes nothing.
use Rattle.std.specs.Prelude.{ℕ, ◌+◌, Option, Some, None, ◌++◌, length, take, drop, ltb}
use Rattle.octets.specs.Octets.{Octets, pick}
use Rattle.ascii.specs.Words.{up_to}

abbrev pub line_feed : ℕ
line_feed = 10

-- the characters of a piece that belong to the line
abbrev pub part_of : Octets → Octets
part_of piece = up_to line_feed piece

-- a line after a piece: they stand behind those that it has, as far as there is room
abbrev pub line_after : ℕ → Octets → Octets → Octets
line_after room line piece = take room (line ++ part_of piece)

-- what is left of the piece where a line feed follows, which is taken too; without one the line is not whole
abbrev pub left_of : Octets → Option Octets
left_of piece = pick (ltb (length (part_of piece)) (length piece)) (Some (drop (length (part_of piece) + 1) piece)) None
