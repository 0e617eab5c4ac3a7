-- The invariant of change 5, beside that of demand 3: the diary has the values that the controller has, and the command that it is asked.
-- Assumes nothing.
use Rattle.std.specs.Prelude.{ℕ, ◌≡◌, true}
use Rattle.octets.specs.Octets.{Octets}
use Rattle.config.specs.Table.{row_of, known_row}
use Rattle.config.specs.Stored.{value_of}
use Rattle.model.specs.State.{State}
use Rattle.model.specs.Config.{Diary}
use Rattle.model.specs.invariant.Commands.{Name, named, OnItsWay}

-- it is the last command that was taken
abbrev pub Last : Diary → Name → Octets → Type 0
Last n k m = (k ≡ named n.gid n.oid) × (m ≡ n.payload)

pub record Configured (s : State) (n : Diary) : Type 0 where
  -- each parameter has the diary's value
  pub values : (id : ℕ) → known_row (row_of id) ≡ true → value_of s.config (row_of id) ≡ n.values id
  -- the command under way is the last that was taken
  pub way : OnItsWay (Last n) s.asking s.down
