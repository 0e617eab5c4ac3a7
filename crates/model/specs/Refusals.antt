-- Refusals: a call has its rules in order, and the first that applies is given (document 01, "Numbers for a call not taken"). Here are
-- the tests that several calls share. Refusals 1 and 2 speak of records, areas and buffers, and come with the octets.
-- Assumes nothing.
use Rattle.std.specs.Prelude.{ℕ, ◌+◌, Bool, true, false, List, [], ◌∷◌, ltb, leb, length}
use Rattle.octets.specs.Octets.{Octets, pick}
use Rattle.state.specs.Conn.{place_of}
use Rattle.model.specs.State.{State}
use Rattle.model.specs.Effects.{Result, taken, refused}

pub record Rule : Type 0 where
  pub number : ℕ
  pub test : Bool

abbrev pub rule : ℕ → Bool → Rule
rule n b = record { number = n; test = b }

unfoldable pub first : List Rule → Result
first [] = taken
first (r ∷ rs) = pick r.test (refused r.number) (first rs)

abbrev pub is_nil : {A : Type 0} → List A → Bool
is_nil [] = true
is_nil (x ∷ xs) = false

-- a Conn ID other than 0, 2-5
abbrev pub no_conn : ℕ → Bool
no_conn c = leb 5 (place_of c)

-- fewer than n free slots of sixteen
abbrev pub full : ℕ → List Octets → Bool
full n w = ltb 16 (length w + n)

-- the five connections
abbrev pub ids : List ℕ
ids = 0 ∷ 2 ∷ 3 ∷ 4 ∷ 5 ∷ []

abbrev pub is_held : State → ℕ → Bool
is_held s c = (s.conns c).host.opened
