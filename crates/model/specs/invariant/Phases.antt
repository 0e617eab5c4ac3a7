-- The invariant of demand 3, second part: the order of what lies on the up wire for one connection, as an automaton that starts at the
-- host's state and ends at the controller's.
-- Assumes nothing.
use Rattle.std.specs.Prelude.{Bool, true, false, List, [], ◌∷◌, ◌≡◌}
use Rattle.model.specs.invariant.Items.{Item, carry, credit, opened, closed}

-- what a connection is to the host once it has read the items so far
pub data Phase : Type 0 where
  -- not open
  shut : Phase
  -- open
  live : Phase
  -- was open, and its closing has come
  over : Phase
  -- something came that must not
  bad : Phase

-- one item on; a closing may come for a connection that is closed already
abbrev pub enter : Phase → Item → Phase
enter shut (carry x) = bad
enter shut (credit n) = bad
enter shut (opened t) = live
enter shut closed = shut
enter live (carry x) = live
enter live (credit n) = live
enter live (opened t) = bad
enter live closed = over
enter over (carry x) = bad
enter over (credit n) = bad
enter over (opened t) = bad
enter over closed = over
enter bad (carry x) = bad
enter bad (credit n) = bad
enter bad (opened t) = bad
enter bad closed = bad

-- all items on
abbrev pub walk : Phase → List Item → Phase
walk p [] = p
walk p (i ∷ is) = walk (enter p i) is

-- from whether the host has it open
abbrev pub start : Bool → Phase
start true = live
start false = shut

-- where the walk ends is the controller's state
abbrev pub Ends : Phase → Bool → Type 0
Ends shut b = b ≡ false
Ends live b = b ≡ true
Ends over b = b ≡ false
Ends bad b = ⊥
