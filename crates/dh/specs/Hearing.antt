-- Parts of definitions in Contents and Host that a function of its own decides: each is a part of its definition, letter for letter.
-- Assumes nothing.
use Rattle.std.specs.Prelude.{ℕ, ◌-◌, Bool, ◌&&◌, ◌||◌, length, get_or, eqb, ltb, leb}
use Rattle.octets.specs.Octets.{Octets, pick}
use Rattle.dh.specs.Contents.{zeros, entry_id, entry_credits}
use Rattle.state.specs.Radio.{polls, listens, id_ok}

-- the front of `init_written`
abbrev pub init_front : Octets → Bool
init_front m = eqb (length m) 16 && zeros m 0 5 && eqb (get_or m 5 0) 0x04 && zeros m 6 2

-- the front of `activated_written`
abbrev pub activated_front : Octets → Bool
activated_front m =
    id_ok (get_or m 0 0) && eqb (get_or m 1 0) 0x01 && (polls (get_or m 3 0) || listens (get_or m 3 0)) && leb 1 (get_or m 4 0)

-- entry n of `entries_ok` follows the one before it
abbrev pub ascends : Octets → ℕ → Bool
ascends m n = eqb n 0 || ltb (entry_id m (n - 1)) (entry_id m n)

-- entry n of `credits_in`
abbrev pub entry_for : Octets → ℕ → ℕ → ℕ
entry_for m n c = pick (eqb (entry_id m n) c) (entry_credits m n) 0
