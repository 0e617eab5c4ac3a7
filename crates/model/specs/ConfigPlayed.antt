-- Change 5, played: sets and gets with what the controller answers to each, so that the claim of Config speaks of something. They are played as the rows of the
-- table are, and P says what it is to play them.
-- Assumes nothing.
use Rattle.std.specs.Prelude.{ℕ, ◌≡◌, List, [], ◌∷◌, ◌++◌, length}
use Rattle.octets.specs.Octets.{Octets}
use Rattle.model.specs.Effects.{fresh, power, command, down, up}
use Rattle.model.specs.Observer.{Event}
use Rattle.model.specs.Table.{shows, goes_down, goes_up, quietly, profile, initialised, ready}
use Rattle.model.specs.Config.{diary_of}

-- a command of GID CORE with this OID, payload and response, each in one packet
abbrev pub exchange : ℕ → Octets → Octets → List Event
exchange oid m b =
    goes_down (command 0x0 oid m) (0x20 ∷ oid ∷ length m ∷ m)
    ∷ goes_up down (0x40 ∷ oid ∷ length b ∷ b)
    ∷ quietly up
    ∷ []

abbrev pub set : Octets → Octets → List Event
set m b = exchange 0x02 m b

abbrev pub get : Octets → Octets → List Event
get m b = exchange 0x03 m b

-- RESET of this type, answered, and INIT
abbrev pub again : ℕ → List Event
again type =
    goes_down (command 0x0 0x00 (type ∷ [])) (0x20 ∷ 0x00 ∷ 0x01 ∷ type ∷ [])
    ∷ shows down [] ((0x40 ∷ 0x00 ∷ 0x01 ∷ 0x00 ∷ []) ∷ (0x60 ∷ 0x00 ∷ 0x05 ∷ 0x02 ∷ type ∷ 0x20 ∷ 0x00 ∷ 0x00 ∷ []) ∷ []) []
    ∷ quietly up
    ∷ quietly up
    ∷ initialised

-- PA_BAIL_OUT 01, PF_BIT_RATE 02
abbrev pub both_set : List Event
both_set = ready ++ set (0x02 ∷ 0x08 ∷ 0x01 ∷ 0x01 ∷ 0x18 ∷ 0x01 ∷ 0x02 ∷ []) (0x00 ∷ 0x00 ∷ [])

pub record ConfigPlayed (P : List Event → Type 0) : Type 0 where
  -- a get lists in the order asked
  pub in_order : P (both_set ++ get (0x02 ∷ 0x18 ∷ 0x08 ∷ []) (0x00 ∷ 0x02 ∷ 0x18 ∷ 0x01 ∷ 0x02 ∷ 0x08 ∷ 0x01 ∷ 0x01 ∷ []))
  -- PF_BIT_RATE 03 and an ID that is not known are invalid, and listed in the order given; the others are set, the last of two stays
  pub others_set : P (ready ++ set (0x05 ∷ 0x18 ∷ 0x01 ∷ 0x03 ∷ 0x09 ∷ 0x01 ∷ 0x05 ∷ 0x12 ∷ 0x01 ∷ 0x00 ∷ 0x18 ∷ 0x01 ∷ 0x02 ∷ 0x09 ∷ 0x01 ∷ 0x06 ∷ []) (0x09 ∷ 0x02 ∷ 0x18 ∷ 0x12 ∷ []) ++ get (0x02 ∷ 0x18 ∷ 0x09 ∷ []) (0x00 ∷ 0x02 ∷ 0x18 ∷ 0x01 ∷ 0x02 ∷ 0x09 ∷ 0x01 ∷ 0x06 ∷ []))
  -- length 0 restores, of a parameter that is known
  pub restored : P (both_set ++ set (0x02 ∷ 0x18 ∷ 0x00 ∷ 0x12 ∷ 0x00 ∷ []) (0x09 ∷ 0x01 ∷ 0x12 ∷ []) ++ get (0x02 ∷ 0x18 ∷ 0x08 ∷ []) (0x00 ∷ 0x02 ∷ 0x18 ∷ 0x01 ∷ 0x01 ∷ 0x08 ∷ 0x01 ∷ 0x01 ∷ []))
  -- PI_B_H_INFO has any length up to 15, and none by default
  pub varying : P (ready ++ set (0x01 ∷ 0x20 ∷ 0x03 ∷ 0x01 ∷ 0x02 ∷ 0x03 ∷ []) (0x00 ∷ 0x00 ∷ []) ++ get (0x01 ∷ 0x20 ∷ []) (0x00 ∷ 0x01 ∷ 0x20 ∷ 0x03 ∷ 0x01 ∷ 0x02 ∷ 0x03 ∷ []) ++ set (0x01 ∷ 0x20 ∷ 0x00 ∷ []) (0x00 ∷ 0x00 ∷ []) ++ get (0x01 ∷ 0x20 ∷ []) (0x00 ∷ 0x01 ∷ 0x20 ∷ 0x00 ∷ []))
  -- a get that asks for what is not available shows nothing else
  pub unavailable : P (both_set ++ get (0x03 ∷ 0x12 ∷ 0x08 ∷ 0x29 ∷ []) (0x09 ∷ 0x02 ∷ 0x12 ∷ 0x00 ∷ 0x29 ∷ 0x00 ∷ []))
  -- a list that is cut short is 05, and sets nothing; octets past a list are ignored
  pub cut_short : P (ready ++ set (0x02 ∷ 0x18 ∷ 0x01 ∷ 0x02 ∷ 0x08 ∷ 0x01 ∷ []) (0x05 ∷ []) ++ set (0x01 ∷ 0x08 ∷ 0x01 ∷ 0x01 ∷ 0xFF ∷ []) (0x00 ∷ 0x00 ∷ []) ++ get (0x02 ∷ 0x18 ∷ 0x08 ∷ 0xFF ∷ []) (0x00 ∷ 0x02 ∷ 0x18 ∷ 0x01 ∷ 0x01 ∷ 0x08 ∷ 0x01 ∷ 0x01 ∷ []))
  -- none asked
  pub none : P (ready ++ set (0x00 ∷ []) (0x00 ∷ 0x00 ∷ []) ++ get (0x00 ∷ []) (0x00 ∷ 0x00 ∷ []))
  -- RESET of type 0 keeps all, of type 1 restores all, and so does power
  pub kept : P (both_set ++ again 0x00 ++ get (0x01 ∷ 0x18 ∷ []) (0x00 ∷ 0x01 ∷ 0x18 ∷ 0x01 ∷ 0x02 ∷ []))
  pub all_restored_law : P (both_set ++ again 0x01 ++ get (0x01 ∷ 0x18 ∷ []) (0x00 ∷ 0x01 ∷ 0x18 ∷ 0x01 ∷ 0x01 ∷ []))
  pub powered : P (both_set ++ quietly power ∷ again 0x00 ++ get (0x01 ∷ 0x18 ∷ []) (0x00 ∷ 0x01 ∷ 0x18 ∷ 0x01 ∷ 0x01 ∷ []))
  -- before INIT both are 06
  pub early : P (quietly (fresh profile) ∷ set (0x00 ∷ []) (0x06 ∷ []) ++ get (0x00 ∷ []) (0x06 ∷ []))
  -- outside IDLE a set that names one of the parameters is 06, and sets nothing; another is answered, and a get is
  pub discovering : P (both_set ++ goes_down (command 0x1 0x03 (0x01 ∷ 0x00 ∷ 0x01 ∷ [])) (0x21 ∷ 0x03 ∷ 0x03 ∷ 0x01 ∷ 0x00 ∷ 0x01 ∷ []) ∷ goes_up down (0x41 ∷ 0x03 ∷ 0x01 ∷ 0x00 ∷ []) ∷ quietly up ∷ set (0x02 ∷ 0x12 ∷ 0x01 ∷ 0x00 ∷ 0x18 ∷ 0x01 ∷ 0x01 ∷ []) (0x06 ∷ []) ++ set (0x01 ∷ 0x12 ∷ 0x01 ∷ 0x00 ∷ []) (0x09 ∷ 0x01 ∷ 0x12 ∷ []) ++ get (0x01 ∷ 0x18 ∷ []) (0x00 ∷ 0x01 ∷ 0x18 ∷ 0x01 ∷ 0x02 ∷ []))
  -- the diary has what was set, and the default of what was not
  pub set_told : (diary_of both_set).values 0x18 ≡ 0x02 ∷ []
  pub default_told : (diary_of both_set).values 0x1A ≡ 0x08 ∷ []
